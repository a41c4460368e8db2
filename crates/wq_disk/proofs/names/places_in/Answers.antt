-- a name that was cut out is kept if it is that of an entry
use Rattle.std.proofs.Common.{◌≡◌, ◌+◌, ◌++◌, ◌∷◌, [], true, false, List, ℕ, filter, refl, take, drop, length, sym, subst, ap, ◌∙◌}
use Rattle.std.specs.Option.{unwrap_or}
use Rattle.std.proofs.lemmas.List.Elements.{All-push}
use Rattle.memchr.specs.Find.{IsFirstByte, is_byte}
use Rattle.wq_disk.specs.declared.names.Place.{Place}
use Rattle.wq_disk.specs.Entries.{is_entry, names_of_text}
use Rattle.wq_disk.specs.Names.{HaveHeads, name_at, name_head, names_at}
use Rattle.wq_disk.proofs.Cuts.{cut_of, kept, name_there, passed, tail_of, within}
use Rattle.wq_disk.proofs.names.places_in.Goals as goal
use Rattle.wq_disk.proofs.names.places_in.Goals.{then-is_entry+in_ok-push, else-is_entry}

-- the names that were found, and those from a place on
abbrev Kept : List ℕ → ℕ → List Place → Type 0
Kept text start places =
    (names_at text places ++ filter is_entry (names_of_text (drop start text)) ≡ filter is_entry (names_of_text text))
    × HaveHeads text places

pub loop-start-preserved : goal.loop-start-preserved
loop-start-preserved c =
    let text = c.args.text.now in
    let start = c.loop-start.start in
    let n = c.unwrap_or.result in
    let first : IsFirstByte (is_byte 0) (drop start text) c.memchr.result =
    subst (λ rest. IsFirstByte (is_byte 0) rest c.memchr.result) (tail_of text start) c.memchr.ensures in
    let is : n ≡ unwrap_or c.memchr.result (length (drop start text)) =
    c.unwrap_or.ensures ∙ ap (λ rest. unwrap_or c.memchr.result (length rest)) (tail_of text start) in
    let so_far = c.loop-start.invariant in
    elim c.if-is_entry.branch [
      | then-is_entry+in_ok-push w ↦
          let place : Place = record { head = w.head_of-head.result; start = start; end = start + n } in
          let short = within (drop start text) c.memchr.result n first is in
          let name = name_there text place start n refl refl c.loop-start-test.true short in
          let one : is_entry (take n (drop start text)) ≡ true = ap is_entry (sym (cut_of text start n)) ∙ sym c.is_entry.ensures ∙ w.if-is_entry.true in
          let head : place.head ≡ name_head (name_at text place) = w.head_of-head.ensures ∙ ap name_head (cut_of text start n ∙ sym name) in
          let items : c.if-is_entry.places.items ≡ c.loop-start.places.items ++ place ∷ [] = ap (λ v. v.items) w.places-is ∙ w.in_ok-push.ensures.items in
          subst (Kept text (start + n + 1)) (sym items) (
            kept text start n c.memchr.result c.loop-start.places.items first is so_far.0 place name one,
            All-push (λ p. p.head ≡ name_head (name_at text p)) c.loop-start.places.items place so_far.1 head,
          )
      | else-is_entry w ↦
          let not_one : is_entry (take n (drop start text)) ≡ false = ap is_entry (sym (cut_of text start n)) ∙ sym c.is_entry.ensures ∙ w.if-is_entry.false in
          subst (Kept text (start + n + 1)) (sym (ap (λ v. v.items) w.places-is)) (
            passed text start n c.memchr.result c.loop-start.places.items first is so_far.0 not_one,
            so_far.1,
          )
    ]
