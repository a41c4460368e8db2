-- A text is read as exactly the spec that the grammar has it spell.
use Rattle.std.proofs.Common.{◌≡◌, ◌⊎◌, ℕ, Bool, true, false, cond, List, [], ◌∷◌, length, drop, map, Some, None, Option, Result, Ok, Err, refl, sym, ap, subst, ◌∙◌, inl, inr}
use Rattle.std.specs.Prelude.{codes, nat_eq}
use Rattle.std.specs.Fmt.{decimal}
use Rattle.std.specs.Option.{option_and_then}
use Rattle.std.specs.List.{join_with_byte, starts_with}
use Rattle.std.proofs.lemmas.Bool.{and_parts, and_from, le-leb, leb-true, cond-true}
use Rattle.std.proofs.lemmas.Bool.Decides.{Decides-eqb}
use Rattle.std.proofs.lemmas.Option.{cond_some, same_Some, option_and_then_some}
use Rattle.std.proofs.lemmas.Slice.Eq.{starts_is}
use Rattle.wq_clock.specs.Limit.{max_cursor_name}
use Rattle.wq_clock.specs.ClockSpec.{SpecData, clock_id, old_clock_id, named_cursor, IsWithinLimits, numbers_of, id_from_numbers, id_of, cursor_of, clock_spec_of}
use Rattle.wq_clock.specs.Spelling.{IsClockSpelling}
use Rattle.wq_clock.specs.Spec.{spec_data, said_by}
use Rattle.wq_clock.specs.declared.parser.ClockFault.{ClockFault}
use Rattle.wq_clock.specs.declared.parser.Spec.{Spec}
use Rattle.std.specs.Result.{IfOk}
use Rattle.wq_clock.specs.Law.{TextsSayWhatTheySpell, PrintedIdsReadBack, SameTextSameId}
use Rattle.wq_clock.proofs.Joined.{AllInRange, slice_split-join, numbers_of-map, text_from_numbers}

-- the clock spec of numbers with colons between them, after `c:`
id_of-join : (first : ℕ) (ns : List ℕ) → AllInRange (first ∷ ns)
    → id_of (join_with_byte 58 (map decimal (first ∷ ns))) ≡ id_from_numbers (first ∷ ns)
id_of-join first ns h =
    ap (option_and_then id_from_numbers) (ap numbers_of (slice_split-join first ns h) ∙ numbers_of-map (first ∷ ns) h)

-- a spelling is read as the spec that it spells
says : (text : List ℕ) (spec : SpecData) → IsClockSpelling spec text → clock_spec_of text ≡ Some spec
says text (clock_id instance tick) h =
    ap clock_spec_of h.2
    ∙ id_of-join instance.start (instance.pid ∷ instance.root ∷ tick ∷ [])
    (h.0.start, (h.0.pid, (h.0.root, (h.1, tt))))
says text old_clock_id (pid, tick, p, t, e) =
    ap clock_spec_of e ∙ id_of-join pid (tick ∷ []) (p, (t, tt))
says text (named_cursor name) h =
    ap clock_spec_of h.2
    ∙ cond-true _ _ _ (and_from _ _ (le-leb 1 (length name) h.0) (le-leb (length name) max_cursor_name h.1))

-- a clock id of these numbers, after `c:`
spells_id : (rest ns : List ℕ) (spec : SpecData) → AllInRange ns
    → rest ≡ join_with_byte 58 (map decimal ns) → id_from_numbers ns ≡ Some spec
    → IsClockSpelling spec (99 ∷ 58 ∷ rest)
spells_id rest [] spec h e is = cc
spells_id rest (a ∷ []) spec h e is = cc
spells_id rest (a ∷ b ∷ []) spec h e is =
    subst (λ s. IsClockSpelling s (99 ∷ 58 ∷ rest)) (same_Some _ _ is) (a, b, h.0, h.1.0, ap (λ r. 99 ∷ 58 ∷ r) e)
spells_id rest (a ∷ b ∷ c ∷ []) spec h e is = cc
spells_id rest (a ∷ b ∷ c ∷ d ∷ []) spec h e is =
    subst (λ s. IsClockSpelling s (99 ∷ 58 ∷ rest)) (same_Some _ _ is)
    (record { start = h.0; pid = h.1.0; root = h.1.1.0 }, h.1.1.1.0, ap (λ r. 99 ∷ 58 ∷ r) e)
spells_id rest (a ∷ b ∷ c ∷ d ∷ f ∷ ns) spec h e is = cc

-- a cursor, after `n:`
spells_cursor : (name : List ℕ) (spec : SpecData) → cursor_of name ≡ Some spec
    → IsClockSpelling spec (110 ∷ 58 ∷ name)
spells_cursor name spec is =
    let passes = cond_some _ _ _ is in
    let parts = and_parts _ _ passes.0 in
    subst (λ s. IsClockSpelling s (110 ∷ 58 ∷ name)) passes.1 (leb-true _ _ parts.0, leb-true _ _ parts.1, refl)

-- if two tests in turn have a result, one of them passed
first_that_passes : {A : Type 0} (b d : Bool) (x y : Option A) (z : A) → cond b x (cond d y None) ≡ Some z
    → ((b ≡ true) × (x ≡ Some z)) ⊎ ((d ≡ true) × (y ≡ Some z))
first_that_passes true d x y z e = inl (refl, e)
first_that_passes false true x y z e = inr (refl, e)
first_that_passes false false x y z e = cc

-- a text spells the spec as which it is read
spells : (text : List ℕ) (spec : SpecData) → clock_spec_of text ≡ Some spec → IsClockSpelling spec text
spells text spec e = elim (first_that_passes (starts_with nat_eq text (codes "c:")) (starts_with nat_eq text (codes "n:"))
    (id_of (drop 2 text)) (cursor_of (drop 2 text)) spec e) [
      | inl h ↦
          let whole = (starts_is Decides-eqb text (codes "c:") _ refl).0 h.0 in
          subst (IsClockSpelling spec) (sym whole) (option_and_then_some id_from_numbers _ spec h.1 (λ ns some is.
          let numbers = text_from_numbers (drop 2 text) ns some in
          spells_id (drop 2 text) ns spec numbers.0 numbers.1 is))
      | inr h ↦
          let whole = (starts_is Decides-eqb text (codes "n:") _ refl).0 h.0 in
          subst (IsClockSpelling spec) (sym whole) (spells_cursor (drop 2 text) spec h.1)
    ]

-- so the spec is within the limits
pub is_within_limits : (text : List ℕ) (r : Result Spec ClockFault) → said_by r ≡ clock_spec_of text
    → IfOk r (λ spec. IsWithinLimits (spec_data spec))
is_within_limits text (Err e) is = tt
is_within_limits text (Ok spec) is = of_spelling (spec_data spec) (spells text (spec_data spec) (sym is))
  where
    of_spelling : (said : SpecData) → IsClockSpelling said text → IsWithinLimits said
    of_spelling (clock_id instance tick) h = (h.0, h.1)
    of_spelling old_clock_id h = tt
    of_spelling (named_cursor name) h = (h.0, h.1)

-- both facts together
pub says_what_it_spells : TextsSayWhatTheySpell
says_what_it_spells text spec = (spells text spec, says text spec)

-- the text of every clock id is read as that id
pub reads_back : PrintedIdsReadBack
reads_back instance tick within h = says _ (clock_id instance tick) (within, h, refl)

-- two clock ids have different texts
pub same_text : SameTextSameId
same_text instance other tick other_tick within within' h h' e =
    let one : Some (clock_id instance tick) ≡ Some (clock_id other other_tick) =
    sym (reads_back instance tick within h) ∙ ap clock_spec_of e ∙ reads_back other other_tick within' h' in
    (cc, cc)
