-- the rows of one more piece
use Rattle.std.proofs.Common.{◌≡◌, ◌<◌, ◌∷◌, ◌++◌, IfErr, ap, length, rules, subst, sym, ◌∙◌, arith}
use Rattle.std.proofs.lemmas.Result.{err_from_is_err_and}
use Rattle.std.specs.Vec.Iter.{into_iter_items}
use Rattle.wq_walk.specs.declared.rows.Rows.{Rows}
use Rattle.wq_walk.specs.Found.{found_rows}
use Rattle.wq_patch.specs.declared.tree.TreeFault.TheVariants.{TooManyRows}
use Rattle.wq_view.specs.Limit.{max_listing_rows}
use Rattle.wq_walk.specs.Listed.{walked_rows}
use Rattle.wq_walk.proofs.Joins.{one_more}
use Rattle.wq_walk.proofs.Kept.{too_many}
use Rattle.wq_walk.proofs.listing.joined.Goals as goal

pub loop-piece-preserved : goal.loop-piece-preserved
loop-piece-preserved c =
    let at = c.loop-piece in
    let steps : into_iter_items at.piece-iterator ≡ c.in-Some.piece ∷ into_iter_items c.next.new.self = c.in-Some.ensures.steps.0 in (
      one_more (λ (rows : Rows). (found_rows rows.found)) at.rows.items _ _ c.in-Some.piece _ _ steps (c.in_ok-rows-2.ensures.all ∙ ap (λ rows. at.rows.items ++ rows) c.in_ok-more.ensures.all) at.invariant.0,
      (let was = at.invariant.1 in let gone = c.in-Some.ensures.steps.1 in let short = ap length steps in omega arith),
      c.in_ok-rows-2.ensures.lawful,
      c.in_ok-rows-2.ensures.few,
    )

pub returns-in_err-rows-2-clause-many : goal.returns-in_err-rows-2-clause-many
returns-in_err-rows-2-clause-many c =
    let at = c.loop-piece in
    let steps : into_iter_items at.piece-iterator ≡ c.in-Some.piece ∷ into_iter_items c.next.new.self = c.in-Some.ensures.steps.0 in
    let begun : into_iter_items c.into_iter-piece-iterator.result ≡ c.args.pieces.items = search rules in
    let all : at.rows.items ++ (c.in_ok-more.more.items ++ walked_rows (into_iter_items c.next.new.self)) ≡ walked_rows c.args.pieces.items =
    ap (λ rows. at.rows.items ++ (rows ++ walked_rows (into_iter_items c.next.new.self))) c.in_ok-more.ensures.all ∙ rw steps at at.invariant.0 ∙ ap walked_rows begun in
    let told = err_from_is_err_and c.from_residual-in_err-rows-2.result c.from_residual-in_err-rows-2.ensures.1 in
    subst (λ r. IfErr r (λ fault. fault ≡ TooManyRows → max_listing_rows < length (walked_rows c.args.pieces.items))) (sym told.1)
    (λ is. too_many at.rows.items c.in_ok-more.more.items _ _ all (c.in_err-rows-2.ensures.many (sym told.2 ∙ is)))
