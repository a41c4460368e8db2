-- `glob` says exactly the patterns that the grammar has written by it.
use Rattle.std.proofs.Common.{◌≡◌, Bool, true, ◌&&◌, List, [], ◌∷◌, length}
use Rattle.std.proofs.Common.{Option, Some, None, Ok, refl, sym, ap, subst, ◌∙◌}
use Rattle.std.specs.Option.{MatchOption, is_some}
use Rattle.std.proofs.lemmas.Bool.{leb-true, le-leb, cond-true}
use Rattle.std.proofs.lemmas.Option.{cond_some, same_Some}
use Rattle.serde_json.specs.Data.{Data, boolean, string, array, Items, no_items, item}
use Rattle.serde_json.specs.Find.{as_bool}
use Rattle.wq_base.specs.Fault.{or_fault}
use Rattle.wq_base.proofs.Fault.{or_fault-ok, unless_fault-ok, with_first-some}
use Rattle.wq_base.proofs.Facts.{same_Ok}
use Rattle.wq_glob.specs.Limit.{max_pattern_length}
use Rattle.wq_glob.specs.Pattern.{PatternData}
use Rattle.wq_glob.specs.declared.flag.Flags.{Flags}
use Rattle.wq_query.specs.declared.fault.QueryFault.TheVariants.{BadGenerator, PatternTooLong}
use Rattle.wq_query.specs.Glob.{are_texts, globs_of, is_text, pattern_in, patterns_in}
use Rattle.wq_query.specs.Grammar.{AreGlobs, IsGlob, ListGlobs}
use Rattle.wq_query.specs.Reading.{is_flag_or_absent}

-- a pattern
pattern-found : (f : Flags) (d : Data) (p : PatternData) → pattern_in f d ≡ Some p → IsGlob f p d
pattern-found f (string text) p e =
    let parts = cond_some _ _ _ e in
    subst (λ q. IsGlob f q (string text)) parts.1 (refl, leb-true (length text) max_pattern_length parts.0, refl)
pattern-found f _ p e = cc

pattern-reads : (f : Flags) (d : Data) (p : PatternData) → IsGlob f p d → pattern_in f d ≡ Some p
pattern-reads f d p h =
    subst (λ x. pattern_in f x ≡ Some p) (sym h.0)
    (cond-true _ _ _ (le-leb (length p.text) max_pattern_length h.1)
    ∙ ap (λ flags. Some (record { text = p.text; flags = flags })) (sym h.2))

-- the patterns of a list
patterns-found : (f : Flags) (ds : Items) (ps : List PatternData) → patterns_in f ds ≡ Some ps → ListGlobs f ps ds
patterns-found f no_items ps e = subst (λ qs. ListGlobs f qs no_items) (same_Some [] ps e) tt
patterns-found f (item d ds) ps e =
    with_first-some (pattern_in f d) (patterns_in f ds) ps e (λ q qs first rest is.
    subst (λ rs. ListGlobs f rs (item d ds)) is (pattern-found f d q first, patterns-found f ds qs rest))

patterns-read : (f : Flags) (ds : Items) (ps : List PatternData) → ListGlobs f ps ds → patterns_in f ds ≡ Some ps
patterns-read f no_items [] h = refl
patterns-read f (item d ds) (p ∷ ps) h = rw (pattern-reads f d p h.0, patterns-read f ds ps h.1) refl
patterns-read f no_items (p ∷ ps) h = absurd h
patterns-read f (item d ds) [] h = absurd h

-- what is written as patterns are texts
texts-read : (f : Flags) (ds : Items) (ps : List PatternData) → ListGlobs f ps ds → are_texts ds ≡ true
texts-read f no_items [] h = refl
texts-read f (item d ds) (p ∷ ps) h =
    ap (λ x. is_text x && are_texts ds) (h.0).0 ∙ texts-read f ds ps h.1
texts-read f no_items (p ∷ ps) h = absurd h
texts-read f (item d ds) [] h = absurd h

-- `glob`
pub glob-found : (f : Flags) (o : Option Data) (glob : Option (List PatternData)) → globs_of f o ≡ Ok glob
    → MatchOption o (glob ≡ None) (AreGlobs f glob)
glob-found f None glob e = sym (same_Ok None glob e)
glob-found f (Some (array ds)) glob e =
    unless_fault-ok BadGenerator (are_texts ds) (or_fault PatternTooLong (patterns_in f ds) (λ patterns. Ok (Some patterns))) glob e (λ texts e1.
    or_fault-ok PatternTooLong (patterns_in f ds) (λ patterns. Ok (Some patterns)) glob e1 (λ patterns some is.
    subst (λ g. AreGlobs f g (array ds)) (same_Ok (Some patterns) glob is) (patterns-found f ds patterns some)))
glob-found f (Some _) glob e = cc

some-globs : (f : Flags) (glob : Option (List PatternData)) (d : Data) → AreGlobs f glob d → globs_of f (Some d) ≡ Ok glob
some-globs f (Some patterns) (array ds) h = rw (texts-read f ds patterns h, patterns-read f ds patterns h) refl
some-globs f _ _ h = absurd h

pub glob-reads : (f : Flags) (o : Option Data) (glob : Option (List PatternData))
    → MatchOption o (glob ≡ None) (AreGlobs f glob) → globs_of f o ≡ Ok glob
glob-reads f None glob h = ap Ok (sym h)
glob-reads f (Some d) glob h = some-globs f glob d h

-- `glob_includedotfiles`
pub dotfiles-found : (o : Option Data) → is_flag_or_absent o ≡ true
    → MatchOption o (Unit {0}) (λ value. (b : Bool) × (value ≡ boolean b))
dotfiles-found None e = tt
dotfiles-found (Some (boolean b)) e = (b, refl)
dotfiles-found (Some _) e = cc

pub dotfiles-reads : (o : Option Data)
    → MatchOption o (Unit {0}) (λ value. (b : Bool) × (value ≡ boolean b)) → is_flag_or_absent o ≡ true
dotfiles-reads None h = refl
dotfiles-reads (Some d) h = ap (λ v. is_some (as_bool v)) h.1
