-- The rows are lawful here, and sorted. The remaining question is whether a name comes twice.
use Rattle.std.proofs.Common.{◌≡◌, ℤ, ◌≤◌, Bool, true, false, List, length, refl, sym, ap, ◌∙◌, arith, w64, IsPermutation, Vec}
use mir.Val.{to_z, of_z, SFits}
use Rattle.std.proofs.lemmas.Int.{to_z-of_z}
use Rattle.std.specs.List.{list_all}
use Rattle.std.specs.Vec.{with_items}
use Rattle.std.proofs.lemmas.List.{with_items_is}
use Rattle.std.proofs.lemmas.List.Sorted.{length_permutation}
use Rattle.std.specs.declared.alloc.Global.{Global}
use Rattle.wq_record.specs.declared.seen.Seen.{Seen}
use Rattle.wq_record.specs.Seen.{SeenData, is_lawful_row, is_count}
use Rattle.wq_view.specs.declared.limit.TheConstants.{MAX_LISTING_ROWS}
use Rattle.wq_view.proofs.Faults.{fault_when_lawful}
use Rattle.wq_view.proofs.Listings.{sorted_listing, is_pass}
use Rattle.wq_view.proofs.listing.Pass.of_few.Goals as goal

-- the second that was passed
is_second : (second : ℤ) (r : Bool) → SFits w64 second → r ≡ is_count (to_z w64 (of_z w64 second)) → r ≡ true → is_count second ≡ true
is_second second r fits e is = ap is_count (sym (to_z-of_z w64 second fits)) ∙ sym e ∙ is

pub returns-then-not-sort_by_name-clause-fault : goal.returns-then-not-sort_by_name-clause-fault
returns-then-not-sort_by_name-clause-fault c =
    let short : length c.args.rows.items ≤ MAX_LISTING_ROWS = c.requires.few in
    let lawful : list_all is_lawful_row c.args.rows.items ≡ true = c.requires.lawful in
    let second = is_second c.args.second _ c.ranges.second c.is_count.ensures c.if-not-is_count.false in
    fault_when_lawful c.args.rows.items c.args.second false short second lawful (rw (c.if-not-sort_by_name.true, c.deref_mut.ensures.value) at c.sort_by_name.ensures.distinct)

pub returns-clause-fault : goal.returns-clause-fault
returns-clause-fault c =
    let short : length c.args.rows.items ≤ MAX_LISTING_ROWS = c.requires.few in
    let lawful : list_all is_lawful_row c.args.rows.items ≡ true = c.requires.lawful in
    let second = is_second c.args.second _ c.ranges.second c.is_count.ensures c.if-not-is_count.false in
    fault_when_lawful c.args.rows.items c.args.second true short second lawful (rw (c.if-not-sort_by_name.false, c.deref_mut.ensures.value) at c.sort_by_name.ensures.distinct)

-- the vector after the sort has the sorted rows
written : (rows : Vec Seen Global) (sorted : List SeenData) → IsPermutation rows.items sorted → (with_items rows sorted).items ≡ sorted
written rows sorted moved = with_items_is rows sorted (omega (arith, length_permutation rows.items sorted moved, rows.ok.0))

pub invariant_of-result : goal.invariant_of-result
invariant_of-result c =
    let short : length c.args.rows.items ≤ MAX_LISTING_ROWS = c.requires.few in
    let lawful : list_all is_lawful_row c.args.rows.items ≡ true = c.requires.lawful in
    let second = is_second c.args.second _ c.ranges.second c.is_count.ensures c.if-not-is_count.false in
    let moved : IsPermutation c.args.rows.items c.sort_by_name.new.rows = rw c.deref_mut.ensures.value at c.sort_by_name.ensures.same in
    rw (to_z-of_z w64 c.args.second c.ranges.second, written c.args.rows c.sort_by_name.new.rows moved) (is_pass c.args.rows.items c.sort_by_name.new.rows c.args.second moved short lawful second (c.sort_by_name.ensures.rise c.if-not-sort_by_name.false), record { none = refl; all = omega arith })

pub returns-clause-pass : goal.returns-clause-pass
returns-clause-pass c =
    let moved : IsPermutation c.args.rows.items c.sort_by_name.new.rows = rw c.deref_mut.ensures.value at c.sort_by_name.ensures.same in
    let distinct = (rw c.deref_mut.ensures.value at c.sort_by_name.ensures.distinct).0 c.if-not-sort_by_name.false in
    rw (to_z-of_z w64 c.args.second c.ranges.second, written c.args.rows c.sort_by_name.new.rows moved) (ap (λ m. record { stats = m; second = c.args.second }) (sorted_listing c.args.rows.items c.sort_by_name.new.rows moved distinct (c.sort_by_name.ensures.rise c.if-not-sort_by_name.false)))
