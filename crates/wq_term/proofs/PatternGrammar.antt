-- Values are read as the arguments of `match` exactly if the grammar writes them so.
use Rattle.std.proofs.Common.{◌≡◌, ◌↔◌, ◌⊎◌, inl, inr, Bool, true, false, ◌||◌, length}
use Rattle.std.proofs.Common.{Option, Some, None, option_and_then, Ok, refl, sym, ap, subst, ◌∙◌}
use Rattle.std.specs.Prelude.{codes, bytes_eq, nat_le, if◌then◌else◌}
use Rattle.std.proofs.lemmas.Bool.{and_parts, and_from, le-leb, leb-true, cond-true}
use Rattle.std.proofs.lemmas.Option.{cond_some, same_Some}
use Rattle.std.proofs.lemmas.Slice.Eq.{bytes_eq-Decides}
use Rattle.serde_json.specs.Data.{Data, boolean, string, object}
use Rattle.serde_json.specs.Data.{Members, no_members, member}
use Rattle.serde_json.specs.Find.{as_bool, get_member}
use Rattle.wq_base.specs.Fault.{is_true, unless_fault}
use Rattle.wq_base.proofs.Fault.{unless_fault-ok}
use Rattle.wq_glob.specs.Limit.{max_pattern_length}
use Rattle.wq_glob.specs.Pattern.{PatternData}
use Rattle.wq_glob.specs.declared.flag.Flags.{Flags}
use Rattle.wq_base.specs.declared.compare.Case.{Case}
use Rattle.wq_base.proofs.Facts.{same_Ok}
use Rattle.wq_term.specs.declared.expr.Scope.{Scope}
use Rattle.wq_term.specs.declared.expr.Scope.TheVariants.{Basename, Wholename}
use Rattle.wq_term.specs.declared.fault.TermFault.TheVariants.{PatternTooLong}
use Rattle.wq_term.specs.Expr.{ExprData, matches}
use Rattle.wq_term.specs.NameFit.{scope_with}
use Rattle.wq_term.specs.PatternArgument.{is_flag, are_flags, is_folded, is_whole_name, plain_flags}
use Rattle.wq_term.specs.PatternArgument.{flags_of}
use Rattle.wq_term.specs.Reading.{match_with}
use Rattle.wq_term.specs.ArgumentGrammar.{AreFlagMembers, AreFlags, IsPlain, IsPatternText}

-- members that pass the test are flags
members-found : (ms : Members) → are_flags ms ≡ true → AreFlagMembers ms
members-found no_members e = tt
members-found (member key (boolean b) ms) e =
    let parts = and_parts _ _ e in (
      either (bytes_eq key (codes "includedotfiles")) (bytes_eq key (codes "noescape"))
          (bytes_eq-Decides key (codes "includedotfiles")).0 (bytes_eq-Decides key (codes "noescape")).0 parts.0,
      members-found ms parts.1,
    )
  where
    either : {P Q : Type 0} (a b : Bool) → (a ≡ true → P) → (b ≡ true → Q) → (a || b) ≡ true → P ⊎ Q
    either true b p q e = inl (p refl)
    either false b p q e = inr (q e)
members-found (member key _ ms) e = cc

members-pass : (ms : Members) → AreFlagMembers ms → are_flags ms ≡ true
members-pass no_members h = refl
members-pass (member key (boolean b) ms) h = and_from _ _ (one h.0) (members-pass ms h.1)
  where
    one : ((key ≡ codes "includedotfiles") ⊎ (key ≡ codes "noescape"))
        → is_flag key (boolean b) ≡ true
    one (inl is) = subst (λ k. is_flag k (boolean b) ≡ true) (sym is) refl
    one (inr is) = subst (λ k. is_flag k (boolean b) ≡ true) (sym is) refl
members-pass (member key _ ms) h = absurd h

-- a flag that is set is a member that is true
said_true : (o : Option Data)
    → (is_true (option_and_then as_bool o) ≡ true) ↔ (o ≡ Some (boolean true))
said_true None = ((λ e. cc), (λ e. cc))
said_true (Some (boolean true)) = ((λ e. refl), (λ e. refl))
said_true (Some (boolean false)) = ((λ e. cc), (λ e. let same : boolean false ≡ boolean true = same_Some _ _ e in cc))
said_true (Some _) = ((λ e. cc), (λ e. let same = same_Some _ _ e in cc))

-- two tests of one fact are one
same_test : {P : Type 0} (a b : Bool) → (a ≡ true) ↔ P → (b ≡ true) ↔ P → a ≡ b
same_test true b f g = sym (g.1 (f.0 refl))
same_test false true f g = f.1 (g.0 refl)
same_test false false f g = refl

-- flags by their parts
same_flags : (w d n f : Bool) (flags : Flags) → w ≡ flags.wholename → d ≡ flags.dotfiles
    → n ≡ flags.noescape
    → f ≡ flags.fold
    → ◌≡◌ {A = Flags} (record { wholename = w; dotfiles = d; noescape = n; fold = f }) flags
same_flags w d n f flags ew ed en ef = rw (ew, ed, en, ef) refl

-- the scope of flags is that of the term
whole_name : (scope : Scope) (flags : Flags) → scope_with flags ≡ scope
    → is_whole_name scope ≡ flags.wholename
whole_name scope flags is = ap is_whole_name (sym is) ∙ at flags.wholename
  where
    at : (w : Bool) → is_whole_name (if w then Wholename else Basename) ≡ w
    at true = refl
    at false = refl

-- and plain flags have it
pub scope_plain : (case : Case) (scope : Scope) → scope_with (plain_flags case scope) ≡ scope
scope_plain case Basename = refl
scope_plain case Wholename = refl

-- flags of a term of this case and scope
abbrev pub IsOf : Case → Scope → Flags → Type 0
IsOf case scope flags = (scope_with flags ≡ scope) × (is_folded case ≡ flags.fold)

-- those that an object sets
pub flags-found : (case : Case) (scope : Scope) (d : Data) (flags : Flags)
    → flags_of (plain_flags case scope) d ≡ Some flags → IsOf case scope flags × AreFlags flags d
flags-found case scope (object ms) flags e =
    let p = cond_some _ _ _ e in
    subst (λ f. IsOf case scope f × AreFlags f (object ms)) p.1 (
      (scope_plain case scope, refl),
      (members-found ms p.0, said_true (get_member (codes "includedotfiles") ms), said_true (get_member (codes "noescape") ms)),
    )
flags-found case scope _ flags e = cc

-- and an object of flags written so are read
pub flags-reads : (case : Case) (scope : Scope) (d : Data) (flags : Flags) → IsOf case scope flags
    → AreFlags flags d → flags_of (plain_flags case scope) d ≡ Some flags
flags-reads case scope (object ms) flags is h =
    cond-true _ _ _ (members-pass ms h.0)
    ∙ ap Some (same_flags _ _ _ _ flags (whole_name scope flags is.0)
    (same_test _ _ (said_true (get_member (codes "includedotfiles") ms)) h.1)
    (same_test _ _ (said_true (get_member (codes "noescape") ms)) h.2) is.1)
flags-reads case scope _ flags is h = absurd h

-- those of a term that gives none
pub plain-reads : (case : Case) (scope : Scope) (flags : Flags) → IsOf case scope flags
    → IsPlain flags
    → plain_flags case scope ≡ flags
plain-reads case scope flags is h =
    same_flags _ _ _ _ flags (whole_name scope flags is.0) (sym h.0) (sym h.1) is.1

-- a pattern of these flags
pub pattern-found : {P : Type 0} (d : Data) (flags : Flags) (t : ExprData)
    → match_with d flags ≡ Ok t
    → ((pattern : PatternData) → t ≡ matches pattern → pattern.flags ≡ flags → IsPatternText pattern d → P)
    → P
pattern-found (string text) flags t e goal =
    unless_fault-ok PatternTooLong (nat_le (length text) max_pattern_length)
    (Ok (matches (record { text = text; flags = flags }))) t e (λ short is.
    goal (record { text = text; flags = flags }) (sym (same_Ok _ t is)) refl (refl, leb-true _ _ short))
pattern-found _ flags t e goal = cc

-- and a text written so is read
pub pattern-reads : (d : Data) (pattern : PatternData) → IsPatternText pattern d
    → match_with d pattern.flags ≡ Ok (matches pattern)
pattern-reads d pattern h =
    subst (λ x. match_with x pattern.flags ≡ Ok (matches pattern)) (sym h.0)
    (ap (λ b. unless_fault PatternTooLong b (Ok (matches pattern))) (le-leb _ _ h.1))
