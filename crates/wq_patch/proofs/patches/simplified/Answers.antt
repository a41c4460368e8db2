-- A patch that changes nothing, and one that does; at the end no patch is left.
use Rattle.std.proofs.Common.{rules, ◌≡◌, ◌+◌, ◌++◌, ◌∷◌, [], ap, refl, sym, ◌∙◌}
use Rattle.std.specs.Vec.Iter.{into_iter_items}
use Rattle.std.proofs.lemmas.List.{nil_from_length}
use Rattle.wq_patch.specs.PatchMaker.{records_behind, rows_before}
use Rattle.wq_view.specs.Patch.{patched}
use Rattle.wq_view.specs.declared.patch.Patch.{Patch}
use Rattle.wq_patch.proofs.Carried.{carried, changed_carried, ended, plain_carried}
use Rattle.wq_patch.proofs.patches.simplified.Goals as goal

pub loop-patch-preserved-then-changes_nothing : goal.loop-patch-preserved-then-changes_nothing
loop-patch-preserved-then-changes_nothing c =
    let p = c.in-Some.patch in
    let rest = into_iter_items c.next.new.self in
    let fewer = c.loop-patch.fewer.items in
    let kept = c.loop-patch.kept in
    let is : into_iter_items c.loop-patch.patch-iterator ≡ p ∷ rest = search rules in
    let sum : c.in_ok-sum.sum ≡ kept + p.kept = search rules in
    record {
      rows = λ records.
          let left = records_behind records fewer in
          ap (λ rs. rows_before records fewer ++ rs)
          ((λ j. carried (sum j) left rest)
          ∙ plain_carried left kept p rest (c.changes_nothing.ensures.replaced c.if-changes_nothing.true) (c.changes_nothing.ensures.rows c.if-changes_nothing.true)
          ∙ (λ j. carried kept left (sym is j)))
          ∙ c.loop-patch.invariant.rows records;
      len = search rules;
    }

pub loop-patch-preserved : goal.loop-patch-preserved
loop-patch-preserved c =
    let p = c.in-Some.patch in
    let q : Patch = record { kept = c.in_ok-sum.sum; replaced = p.replaced; rows = p.rows } in
    let rest = into_iter_items c.next.new.self in
    let fewer = c.loop-patch.fewer.items in
    let kept = c.loop-patch.kept in
    let is : into_iter_items c.loop-patch.patch-iterator ≡ p ∷ rest = search rules in
    let sum : c.in_ok-sum.sum ≡ kept + p.kept = search rules in
    let pushed : c.push.new.self.items ≡ fewer ++ (q ∷ []) = search rules in
    record {
      rows = λ records.
          (λ j. rows_before records (pushed j) ++ carried 0 (records_behind records (pushed j)) rest)
          ∙ changed_carried records fewer kept p q rest sum refl refl
          ∙ (λ j. rows_before records fewer ++ carried kept (records_behind records fewer) (sym is j))
          ∙ c.loop-patch.invariant.rows records;
      len = search rules;
    }

pub returns : goal.returns
returns c records =
    let fewer = c.loop-patch.fewer.items in
    let kept = c.loop-patch.kept in
    let none : into_iter_items c.loop-patch.patch-iterator ≡ [] = nil_from_length (into_iter_items c.loop-patch.patch-iterator) (sym c.loop-patch.invariant.len ∙ c.in-None.ensures.steps.0) in
    let all : into_iter_items c.into_iter-patch-iterator.result ≡ c.args.patches.items = search rules in
    ended records fewer kept
    ∙ (λ j. rows_before records fewer ++ carried kept (records_behind records fewer) (sym none j))
    ∙ c.loop-patch.invariant.rows records
    ∙ ap (patched records) all
