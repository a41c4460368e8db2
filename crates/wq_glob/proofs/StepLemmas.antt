-- The steps that are read stand for the atoms.
use Rattle.std.proofs.Common.{◌≡◌, ℕ, ◌+◌, ◌<◌, ◌≤◌, Bool, true, false, not, ◌&&◌, nat_le, if◌then◌else◌, List, [], ◌∷◌, ◌++◌, length, drop, Some, None, refl, sym, ◌∙◌, ap, subst, arith, append_assoc, length-append}
use Rattle.std.specs.List.{list_any}
use Rattle.std.proofs.lemmas.Bool.{not-true, and_parts, leb-true, ne_eqb}
use Rattle.wq_base.specs.Byte.{is_slash}
use Rattle.wq_glob.specs.Byte.{is_upper, lower_if, lower_of}
use Rattle.wq_glob.specs.ByteSet.{has_byte, in_set}
use Rattle.wq_glob.specs.Class.{Class, in_class}
use Rattle.wq_glob.specs.Reading.{begins, class_at, class_items, is_negation}
use Rattle.wq_glob.specs.Atom.{Atom, atoms_from, Literal, OneOf, Nothing, is_unknown, known_class, one_of_at}
use Rattle.wq_glob.specs.Fits.{is_wild}
use Rattle.wq_glob.specs.FitsTest.{admits}
use Rattle.wq_glob.specs.Mark.{Mark}
use Rattle.wq_glob.specs.Step.{AllStand, IsCompiled, IsKept, IsPieceOf, IsStepOf, step_admits}
use Rattle.wq_glob.specs.declared.byte_set.ByteSet.{ByteSet}
use Rattle.wq_glob.specs.declared.class.Item.{Item}
use Rattle.wq_glob.specs.declared.flag.Flags.{Flags}
use Rattle.wq_glob.specs.declared.parser.Piece.{Piece}
use Rattle.wq_glob.specs.declared.parser.Piece.TheVariants.{Plain, Held}
use Rattle.wq_glob.specs.declared.rules.Rules.{Rules}
use Rattle.wq_glob.specs.declared.step.Step.{Step}
use Rattle.wq_glob.specs.declared.step.Step.TheVariants.{Byte, AnyByte, Set, Stars, Below, Tail, Never}

-- a letter without its case is a slash if it was one
pub slash_folded : (fold : Bool) (b : ℕ) → is_slash (lower_if fold b) ≡ is_slash b
unfolding lower_of
slash_folded false b = refl
slash_folded true b = at (is_upper b) refl
  where
    at : (u : Bool) → is_upper b ≡ u → is_slash (if u then b + 32 else b) ≡ is_slash b
    at false is = refl
    at true is =
        let parts = and_parts (nat_le 65 b) (nat_le b 90) is in
        let low : 65 ≤ b = leb-true 65 b parts.0 in
        let high : b + 32 ≡ 47 → ⊥ = omega arith in
        let here : b ≡ 47 → ⊥ = omega arith in
        ne_eqb (b + 32) 47 high ∙ sym (ne_eqb b 47 here)

-- a byte stands for its literal
pub stands_byte : (flags : Flags) (b : ℕ) → IsPieceOf flags (Plain (Byte (lower_if flags.fold b))) (Literal b)
stands_byte flags b f is =
    subst (λ (v : Flags). IsStepOf f (Byte (lower_if v.fold b)) (Literal b)) is
    record { same_reach = refl; same_bytes = λ x small. refl; same_opening = slash_folded f.flags.fold b; same_literal = refl }

stands_set : (flags : Flags) (set : ByteSet) (c : Class) → ((b : ℕ) → b < 256 → has_byte set b ≡ in_class flags.fold c b) → IsPieceOf flags (Held set) (OneOf c)
stands_set flags set c holds f number is has =
    record {
      same_reach = refl;
      same_bytes = λ x small. ap (λ (h : Bool). is_wild f.flags x && h) (has x.byte small ∙ holds x.byte small ∙ ap (λ (v : Flags). in_class v.fold c x.byte) (sym is));
      same_opening = refl;
      same_literal = refl;
    }

-- a class whose names are all known
pub stands_class : (flags : Flags) (set : ByteSet) (c : Class) (known : Bool) → known ≡ not (list_any is_unknown c.items) → known ≡ true → ((b : ℕ) → b < 256 → has_byte set b ≡ in_class flags.fold c b) → IsPieceOf flags (Held set) (known_class c)
stands_class flags set c known is all holds =
    subst (λ (u : Bool). IsPieceOf flags (Held set) (if u then Nothing else OneOf c)) (sym (not-true _ (sym is ∙ all))) (stands_set flags set c holds)

-- the atom after a `[`, by the items that are read there
pub one_of_some : (noescape : Bool) (text after : List ℕ) (items : List Item) → class_items noescape (if begins is_negation text then drop 1 text else text) ≡ Some (items, after) →
    one_of_at noescape text ≡ (known_class record { negated = begins is_negation text; items = items }, after)
unfolding one_of_at class_at
one_of_some noescape text after items is = rw is refl

-- or nothing, if the class has no end
pub one_of_none : (noescape : Bool) (text : List ℕ) → class_items noescape (if begins is_negation text then drop 1 text else text) ≡ None → one_of_at noescape text ≡ (Nothing, [])
unfolding one_of_at class_at
one_of_none noescape text is = rw is refl

-- a step that fits nothing stands for an atom that fits nothing
pub stands_never : (flags : Flags) → IsPieceOf flags (Plain Never) Nothing
stands_never flags f is = record { same_reach = refl; same_bytes = λ x small. refl; same_opening = refl; same_literal = refl }

-- the set after the others is named by how many those are
last_set : (old : List ByteSet) (set : ByteSet) (more : List ByteSet) (b : ℕ) → in_set (old ++ set ∷ more) (length old) b ≡ has_byte set b
last_set [] set more b = refl
last_set (s ∷ old) set more b = last_set old set more b

-- what is kept of a piece stands for its atom, whatever sets come after
pub kept_stands : (f : Rules) (flags : Flags) (piece : Piece) (atom : Atom) (old new more : List ByteSet) (step : Step) →
    f.flags ≡ flags → f.sets.items ≡ new ++ more → IsKept piece old new step → IsPieceOf flags piece atom → IsStepOf f step atom
kept_stands f flags (Plain same) atom old new more step is sets kept stands = subst (λ (s : Step). IsStepOf f s atom) (sym kept.1) (stands f is)
kept_stands f flags (Held set) atom old new more step is sets kept stands =
    let all : f.sets.items ≡ old ++ set ∷ more = sets ∙ ap (λ (l : List ByteSet). l ++ more) kept.0 ∙ append_assoc old (set ∷ []) more in
    subst (λ (s : Step). IsStepOf f s atom) (sym kept.1)
    (stands f (length old) is (λ b small. ap (λ (l : List ByteSet). in_set l (length old) b) all ∙ last_set old set more b))

-- the sets before it come first, too
pub kept_more : (piece : Piece) (old new more all : List ByteSet) (step : Step) → IsKept piece old new step → all ≡ new ++ more → (rest : List ByteSet) × (all ≡ old ++ rest)
kept_more (Plain same) old new more all step kept is = (more, is ∙ ap (λ (l : List ByteSet). l ++ more) kept.0)
kept_more (Held set) old new more all step kept is = (set ∷ more, is ∙ ap (λ (l : List ByteSet). l ++ more) kept.0 ∙ append_assoc old (set ∷ []) more)

-- and there is one more at most
pub kept_one : (piece : Piece) (old new : List ByteSet) (step : Step) → IsKept piece old new step → length new ≤ length old + 1
kept_one (Plain same) old new step kept = rw kept.0 (omega arith)
kept_one (Held set) old new step kept = rw kept.0 (omega (arith, length-append old (set ∷ [])))

-- the same flags and sets give a step the same bytes
same_admits : (f g : Rules) (step : Step) (x : Mark) → g.flags ≡ f.flags → g.sets.items ≡ f.sets.items → step_admits g step x ≡ step_admits f step x
same_admits f g (Byte b) x flags sets = rw flags refl
same_admits f g AnyByte x flags sets = rw flags refl
same_admits f g (Set number) x flags sets = rw (flags, sets) refl
same_admits f g Stars x flags sets = rw flags refl
same_admits f g Below x flags sets = refl
same_admits f g Tail x flags sets = refl
same_admits f g Never x flags sets = refl

same_stand : (f g : Rules) (steps : List Step) (atoms : List Atom) → g.flags ≡ f.flags → g.sets.items ≡ f.sets.items → AllStand f steps atoms → AllStand g steps atoms
same_stand f g [] [] flags sets all = tt
same_stand f g [] (a ∷ atoms) flags sets all = absurd all
same_stand f g (s ∷ steps) [] flags sets all = absurd all
same_stand f g (s ∷ steps) (a ∷ atoms) flags sets (stands, all) = (
  record {
    same_reach = stands.same_reach;
    same_bytes = λ x small. same_admits f g s x flags sets ∙ stands.same_bytes x small ∙ ap (λ (v : Flags). admits v a x) (sym flags);
    same_opening = stands.same_opening;
    same_literal = stands.same_literal;
  },
  same_stand f g steps atoms flags sets all,
)

-- what is the same in all parts is compiled, too
pub compiled_same : (text other : List ℕ) (f g : Rules) (steps copied : List Step) → other ≡ text → g.flags ≡ f.flags → g.sets.items ≡ f.sets.items → copied ≡ steps →
    IsCompiled text f steps → IsCompiled other g copied
compiled_same text other f g steps copied same flags sets steps_same compiled =
    subst (λ (t : List ℕ). IsCompiled t g copied) (sym same)
    (subst (λ (l : List Step). IsCompiled text g l) (sym steps_same)
    record {
      short = compiled.short;
      stands = same_stand f g steps _ flags sets (subst (λ (v : Flags). AllStand f steps (atoms_from (length text) v true text)) (sym flags) compiled.stands);
    })
