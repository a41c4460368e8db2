use Rattle.std.proofs.Common.{refl, sym, ◌∙◌, ◌≡◌, ◌∷◌, ◌++◌, [], ap, None, Some, List, ℕ}
use Rattle.wq_glob.specs.Reading.{class_items, first_item}
use Rattle.wq_glob.proofs.ItemLemmas.{items_begin, items_more, items_less, items_fail, items_end}
use Rattle.wq_glob.proofs.class.read_items.Goals as goal

pub returns-in_default : goal.returns-in_default
unfolding class_items
returns-in_default c =
    let none : first_item c.args.noescape c.args.text.now ≡ None = sym c.in_default.ensures in
    rw none refl

pub loop-rest-init : goal.loop-rest-init
loop-rest-init c = (
  c.in-Some.first ∷ [],
  items_begin c.args.noescape c.args.text.now (c.in-Some.first, c.in-Some.rest.now) (sym c.in-Some.ensures),
  c.add.ensures [] c.none-members.ensures,
)

pub loop-rest-smaller : goal.loop-rest-smaller
loop-rest-smaller c = items_less c.args.noescape c.loop-rest.rest.now (c.in-Some-first_item.item, c.in-Some-first_item.after.now) (sym c.in-Some-first_item.ensures)

pub loop-rest-preserved : goal.loop-rest-preserved
loop-rest-preserved c =
    let was = c.loop-rest.invariant in (
      was.0 ++ c.in-Some-first_item.item ∷ [],
      was.1 ∙ items_more c.args.noescape c.loop-rest.rest.now was.0 (c.in-Some-first_item.item, c.in-Some-first_item.after.now) (sym c.begins.ensures ∙ c.loop-rest-test.true) (sym c.in-Some-first_item.ensures),
      c.add-in-loop-rest.ensures was.0 was.2,
    )

pub returns-in_default-first_item : goal.returns-in_default-first_item
returns-in_default-first_item c =
    let was = c.loop-rest.invariant in
    was.1 ∙ items_fail c.args.noescape c.loop-rest.rest.now was.0 (sym c.begins.ensures ∙ c.loop-rest-test.true) (sym c.in_default-first_item.ensures)

pub returns : goal.returns
returns c =
    let was = c.loop-rest.invariant in (
      was.0,
      was.1 ∙ items_end c.args.noescape c.loop-rest.rest.now was.0 (sym c.begins.ensures ∙ c.loop-rest-test.false)
          ∙ ap (λ (after : List ℕ). Some (was.0, after)) (sym c.behind.ensures),
      was.2,
    )
