-- The next record, or none.
use Rattle.std.proofs.Common.{◌≡◌, ◌+◌, ◌∷◌, [], IfNone, IfSome, drop, subst, ◌∙◌}
use Rattle.wq_patch.specs.Again.{AgainData}
use Rattle.wq_view.specs.Records.{records_left}
use Rattle.wq_patch.proofs.Passed.{map_none, map_some, next_left, piece_left}
use Rattle.wq_patch.proofs.again.Again.next.Goals as goal

pub returns-clause-none : goal.returns-clause-none
returns-clause-none c =
    let it = c.self.inside in
    subst (λ (a : AgainData). IfNone c.next_of.result (drop a.passed a.records ≡ [])) c.self.view_is
    (map_none c.next_of.result _ _ (λ none. piece_left (records_left it.all) (records_left it.left) it.passed it.count c.self.invariant.0 c.self.invariant.1 ∙ none) c.next_of.ensures.none)

pub returns-clause-some : goal.returns-clause-some
returns-clause-some c =
    let it = c.self.inside in
    subst (λ (a : AgainData). IfSome c.next_of.result (λ next. drop a.passed a.records ≡ next.0.now ∷ drop (a.passed + 1) a.records)) c.self.view_is
    (map_some c.next_of.result _ _ (λ next is. (next_left (records_left it.all) (records_left it.left) (records_left next.1) next.0.now it.passed it.count c.self.invariant.0 c.self.invariant.1 is.0 is.1).0) c.next_of.ensures.some)
