-- The first bytes, the rows and the last bytes were written, or a front of them.
use Rattle.std.proofs.Common.{◌≤◌, ◌<◌, ◌++◌, codes, drop, length, map, ap, sym, subst, ◌∙◌, arith}
use Rattle.std.proofs.lemmas.List.{length-drop}
use Rattle.std.proofs.lemmas.List.Elements.{All-drop}
use Rattle.std.proofs.lemmas.Result.{on_err_weaker, on_ok_weaker}
use Rattle.std.specs.Io.KnownBytes.{Appends}
use Rattle.wq_base.specs.Writing.{WritesFront}
use Rattle.wq_base.proofs.Fronts.{on_err}
use Rattle.wq_clock.specs.Bound.{is_fresh}
use Rattle.wq_clock.specs.Instance.{instance_data}
use Rattle.wq_view.specs.Limit.{max_records}
use Rattle.wq_view.specs.Position.{records_at}
use Rattle.wq_reply.specs.Listing.{AreWithin}
use Rattle.wq_reply.specs.Long.{close_text, head_files}
use Rattle.wq_reply.specs.Printing.{told}
use Rattle.wq_reply.specs.Rows.{end_text, rows_text}
use Rattle.wq_reply.proofs.WrittenRows.{line_begins, line_done, line_ends, line_within}
use Rattle.wq_reply.proofs.long.LongReply.write_line.Goals as goal

pub returns-in_err-write_all-clause-front : goal.returns-in_err-write_all-clause-front
returns-in_err-write_all-clause-front g c =
    let it = c.self.inside in
    on_err c.from_residual.result
    (line_begins _ _ c.args.self.now it.head.items
    (rows_text (map (told it.form (instance_data it.instance) it.bound) (records_at it.shown.records (drop head_files it.places.items))))
    (close_text (is_fresh it.bound)) (codes "\n") (sym c.self.view_is)
    (subst (WritesFront _ _) c.deref.ensures.value c.in_err-write_all.ensures.front))

pub write_rows-requires-clause-within : goal.write_rows-requires-clause-within
write_rows-requires-clause-within g c =
    subst (AreWithin c.self.inside.shown.records) (sym (c.rest_of-places.ensures ∙ ap (drop head_files) c.deref-2.ensures.value))
    (All-drop (λ place. place < length c.self.inside.shown.records) head_files c.self.inside.places.items c.self.invariant.0)

pub write_rows-requires-clause-count : goal.write_rows-requires-clause-count
write_rows-requires-clause-count g c =
    subst (λ l. length l ≤ max_records) (sym (c.rest_of-places.ensures ∙ ap (drop head_files) c.deref-2.ensures.value))
    (omega (arith, length-drop head_files c.self.inside.places.items, c.self.invariant.1))

pub returns-in_err-write_rows-clause-front : goal.returns-in_err-write_rows-clause-front
returns-in_err-write_rows-clause-front g c =
    let it = c.self.inside in
    let rest = c.rest_of-places.ensures ∙ ap (drop head_files) c.deref-2.ensures.value in
    on_err c.from_residual-in_err-write_rows.result
    (line_within _ _ _ c.args.self.now it.head.items
    (rows_text (map (told it.form (instance_data it.instance) it.bound) (records_at it.shown.records c.rest_of-places.result.now)))
    (end_text (is_fresh it.bound)) (codes "\n") 93
    (sym c.self.view_is ∙ ap (λ l. it.head.items ++ (rows_text (map (told it.form (instance_data it.instance) it.bound) (records_at it.shown.records l)) ++ close_text (is_fresh it.bound))) (sym rest))
    (subst (Appends _ _) c.deref.ensures.value c.in_ok-write_all.ensures.done) c.in_err-write_rows.ensures.front)

pub returns-clause-done : goal.returns-clause-done
returns-clause-done g c =
    let it = c.self.inside in
    let rest = c.rest_of-places.ensures ∙ ap (drop head_files) c.deref-2.ensures.value in
    let last = c.close_of.ensures ∙ ap (λ b. close_text b ++ codes "\n") c.is_fresh.ensures in
    on_ok_weaker c.write_all-2.result (λ done.
    line_done _ _ _ _ c.args.self.now it.head.items
    (rows_text (map (told it.form (instance_data it.instance) it.bound) (records_at it.shown.records c.rest_of-places.result.now)))
    (close_text (is_fresh it.bound)) (codes "\n")
    (sym c.self.view_is ∙ ap (λ l. it.head.items ++ (rows_text (map (told it.form (instance_data it.instance) it.bound) (records_at it.shown.records l)) ++ close_text (is_fresh it.bound))) (sym rest))
    (subst (Appends _ _) c.deref.ensures.value c.in_ok-write_all.ensures.done) c.in_ok-write_rows.ensures.done
    (subst (Appends _ _) last done))
    c.write_all-2.ensures.done

pub returns-clause-front : goal.returns-clause-front
returns-clause-front g c =
    let it = c.self.inside in
    let rest = c.rest_of-places.ensures ∙ ap (drop head_files) c.deref-2.ensures.value in
    let last = c.close_of.ensures ∙ ap (λ b. close_text b ++ codes "\n") c.is_fresh.ensures in
    on_err_weaker c.write_all-2.result (λ front.
    line_ends _ _ _ _ c.args.self.now it.head.items
    (rows_text (map (told it.form (instance_data it.instance) it.bound) (records_at it.shown.records c.rest_of-places.result.now)))
    (close_text (is_fresh it.bound)) (codes "\n")
    (sym c.self.view_is ∙ ap (λ l. it.head.items ++ (rows_text (map (told it.form (instance_data it.instance) it.bound) (records_at it.shown.records l)) ++ close_text (is_fresh it.bound))) (sym rest))
    (subst (Appends _ _) c.deref.ensures.value c.in_ok-write_all.ensures.done) c.in_ok-write_rows.ensures.done
    (subst (WritesFront _ _) last front))
    c.write_all-2.ensures.front
