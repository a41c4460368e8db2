use Rattle.std.proofs.Common.{sym, ap, subst, ◌≡◌, ℕ, Bool, List, Some, None, []}
use Rattle.wq_glob.specs.Atom.{Atom, Nothing, known_class, one_of_at}
use Rattle.wq_glob.specs.Reading.{class_items, begins, is_negation}
use Rattle.wq_glob.specs.Step.{IsPieceOf}
use Rattle.wq_glob.specs.declared.parser.Piece.TheVariants.{Plain}
use Rattle.wq_glob.specs.declared.step.Step.TheVariants.{Never}
use Rattle.wq_glob.proofs.StepLemmas.{one_of_some, one_of_none, stands_never}
use Rattle.wq_glob.proofs.parser.one_of.Goals as goal
use Rattle.wq_glob.proofs.parser.one_of.Goals.{After-class_piece, In-None}

-- the class that was read
whole : (c : After-class_piece) → one_of_at c.args.flags.noescape c.args.text.now ≡ (known_class record { negated = begins is_negation c.args.text.now; items = c.in-Some.ensures.0 }, c.in-Some.after.now)
whole c =
    one_of_some c.args.flags.noescape c.args.text.now c.in-Some.after.now c.in-Some.ensures.0
    (subst (λ (t : List ℕ). class_items c.args.flags.noescape t ≡ Some (c.in-Some.ensures.0, c.in-Some.after.now)) c.items_of.ensures c.in-Some.ensures.1)

-- or none, if it has no end
endless : (c : In-None) → one_of_at c.args.flags.noescape c.args.text.now ≡ (Nothing, [])
endless c =
    one_of_none c.args.flags.noescape c.args.text.now
    (subst (λ (t : List ℕ). class_items c.args.flags.noescape t ≡ None) c.items_of.ensures c.in-None.ensures)

pub returns-in-Some-clause-stands : goal.returns-in-Some-clause-stands
returns-in-Some-clause-stands c =
    subst (λ (r : Atom × List ℕ). IsPieceOf c.args.flags c.class_piece.result r.0) (sym (whole c))
    (subst (λ (n : Bool). IsPieceOf c.args.flags c.class_piece.result (known_class record { negated = n; items = c.in-Some.ensures.0 })) c.is_negated.ensures
    (c.class_piece.ensures c.in-Some.ensures.0 c.in-Some.ensures.2))

pub returns-in-Some-clause-rest : goal.returns-in-Some-clause-rest
returns-in-Some-clause-rest c = sym (ap (λ (r : Atom × List ℕ). r.1) (whole c))

pub returns-in-None-clause-stands : goal.returns-in-None-clause-stands
returns-in-None-clause-stands c =
    subst (λ (r : Atom × List ℕ). IsPieceOf c.args.flags (Plain Never) r.0) (sym (endless c)) (stands_never c.args.flags)

pub returns-in-None-clause-rest : goal.returns-in-None-clause-rest
returns-in-None-clause-rest c = sym (ap (λ (r : Atom × List ℕ). r.1) (endless c))
