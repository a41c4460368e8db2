-- a sort keeps the places and puts none before a greater one, so what is left out beside a place has its name
use Rattle.std.proofs.Common.{rules, ◌≡◌, not, refl, subst, sym, ◌∙◌}
use Rattle.std.specs.List.{Contains}
use Rattle.std.specs.Ordering.{is_lt}
use Rattle.std.proofs.lemmas.Fn.{always_returns_same}
use Rattle.std.proofs.lemmas.List.Elements.{All-contains_itself, All-map}
use Rattle.std.proofs.lemmas.List.Sorted.{All-permutation, IsPermutation-map, IsPermutation-sym, IsStrictWeakOrder-flip, ranks_by}
use Rattle.wq_disk.specs.Names.{name_head, name_at, names_at, place_cmp}
use Rattle.wq_disk.proofs.EachOnce.{each_once, fall_distinct, key_at, keys_total, unmapped}
use Rattle.wq_disk.proofs.Entries.{all_deduped}
use Rattle.wq_disk.proofs.names.each_once.Goals as goal

pub returns-clause-kept : goal.returns-clause-kept
returns-clause-kept c =
    let text = c.args.text.now in
    let sorted = c.sort_unstable_by.new.self.items in
    let kept = each_once text (λ s. s.0.now ≡ text) _
    (λ s x k b t x' k' q h. let met = h.called.met.0 in (
      subst (λ u. u.0.now ≡ text) (sym h.called.met.1) q,
      sym h.leaves.0 ∙ met.0 ∙ h.shows.0,
      sym h.leaves.1 ∙ met.1 ∙ h.shows.1,
      met.2 ∙ (λ i. not (is_lt (place_cmp (q i) (h.shows.0 i) (h.shows.1 i)))),
    )) _ _ _ refl c.dedup_by.ensures.filtered
    (c.sort_unstable_by.ensures.sorted _ (IsStrictWeakOrder-flip _ (ranks_by keys_total (key_at text))) (always_returns_same _ _ _ (λ a r g called. search rules))) in
    All-permutation (Contains (names_at text c.dedup_by.new.self.items)) (names_at text sorted) (names_at text c.args.places.items)
    (IsPermutation-sym (names_at text c.args.places.items) (names_at text sorted)
    (IsPermutation-map (name_at text) c.args.places.items sorted c.sort_unstable_by.ensures.permutation)) kept.0

pub returns-clause-no_more : goal.returns-clause-no_more
returns-clause-no_more c =
    let text = c.args.text.now in
    let names = names_at text c.args.places.items in
    All-map (Contains names) (name_at text) c.dedup_by.new.self.items
    (all_deduped (λ place. Contains names (name_at text place)) _
    (λ s x k b t x' k' h. let met = h.called.met.0 in (sym h.leaves.0 ∙ met.0 ∙ h.shows.0, sym h.leaves.1 ∙ met.1 ∙ h.shows.1)) _ _ _ c.dedup_by.ensures.filtered
    (All-permutation (λ place. Contains names (name_at text place)) _ _ c.sort_unstable_by.ensures.permutation
    (unmapped (name_at text) (Contains names) c.args.places.items (All-contains_itself names))))

pub returns-clause-distinct : goal.returns-clause-distinct
returns-clause-distinct c =
    let text = c.args.text.now in
    let kept = each_once text (λ s. s.0.now ≡ text) _
    (λ s x k b t x' k' q h. let met = h.called.met.0 in (
      subst (λ u. u.0.now ≡ text) (sym h.called.met.1) q,
      sym h.leaves.0 ∙ met.0 ∙ h.shows.0,
      sym h.leaves.1 ∙ met.1 ∙ h.shows.1,
      met.2 ∙ (λ i. not (is_lt (place_cmp (q i) (h.shows.0 i) (h.shows.1 i)))),
    )) _ _ _ refl c.dedup_by.ensures.filtered
    (c.sort_unstable_by.ensures.sorted _ (IsStrictWeakOrder-flip _ (ranks_by keys_total (key_at text))) (always_returns_same _ _ _ (λ a r g called. search rules))) in
    fall_distinct text c.dedup_by.new.self.items
    (all_deduped (λ place. place.head ≡ name_head (name_at text place)) _
    (λ s x k b t x' k' h. let met = h.called.met.0 in (sym h.leaves.0 ∙ met.0 ∙ h.shows.0, sym h.leaves.1 ∙ met.1 ∙ h.shows.1)) _ _ _ c.dedup_by.ensures.filtered
    (All-permutation (λ place. place.head ≡ name_head (name_at text place)) _ _ c.sort_unstable_by.ensures.permutation c.requires))
    kept.1
