-- The bytes that the reader showed are taken as far as they are kept.
use Rattle.std.proofs.Common.{◌≡◌, ◌-◌, length, sym, ap, subst, ◌∙◌, rules, length-take-le}
use Rattle.std.specs.Io.BufRead.{FillKeeps}
use Rattle.std.proofs.BufReadLemmas.{Consumes_shown}
use Rattle.wq_replay.specs.Taken.{is_last_line, kept_line, max_kept}
use Rattle.wq_replay.proofs.Parts.{count_within, part_taken, part_fits}
use Rattle.wq_replay.proofs.Inside.{part_within}
use Rattle.wq_replay.proofs.line_reader.take_part.Goals as goal

pub slice_bounds-extend_from_slice-end : goal.slice_bounds-extend_from_slice-end
slice_bounds-extend_from_slice-end g c =
    let long : c.len.result ≡ length c.args.line.now.items = search rules in
    sym (length-take-le _ _ (count_within c.args.line.now.items c.in-Ok.shown.now _ (c.part-count.ensures.count ∙ ap (λ n. length (kept_line (max_kept - n) c.in-Ok.shown.now)) long)))

pub returns-clause-done : goal.returns-clause-done
returns-clause-done g c =
    let before = c.args.line.now.items in
    let shown = c.in-Ok.shown.now in
    let long : c.len.result ≡ length before = search rules in
    let counted = c.part-count.ensures.count ∙ ap (λ n. length (kept_line (max_kept - n) shown)) long in
    let last = c.part-count.ensures.last ∙ ap (λ n. is_last_line (max_kept - n) shown) long in
    let rested = c.fill_buf.follows.lender-at-none in
    let filled = subst (FillKeeps _ (g.R.Read.remaining rested) (g.R.BufRead.consumable_len rested)) c.in-Ok.is c.fill_buf.follows.holds-at-none in
    let moved = Consumes_shown _ _ _ _ shown c.part-count.result.0 (count_within before shown _ counted) c.in-Ok.ensures.front c.in-Ok.ensures.end filled.0 filled.1 c.consume.ensures.bytes in
    part_taken (g.R.Read.remaining c.args.reader.now) (g.R.Read.remaining c.consume.new.self) before c.extend_from_slice.new.self.items shown c.part-count.result.0 c.part-count.result.1 moved.0 c.in-Ok.ensures.front c.in-Ok.ensures.end counted last c.in_ok-extend_from_slice.ensures.items

pub returns-clause-kept : goal.returns-clause-kept
returns-clause-kept g c =
    let long : c.len.result ≡ length c.args.line.now.items = search rules in
    let counted = c.part-count.ensures.count ∙ ap (λ n. length (kept_line (max_kept - n) c.in-Ok.shown.now)) long in
    part_fits c.args.line.now.items c.extend_from_slice.new.self.items c.in-Ok.shown.now c.part-count.result.0 c.requires counted c.in_ok-extend_from_slice.ensures.items

pub returns-clause-within : goal.returns-clause-within
returns-clause-within g c =
    let before = c.args.line.now.items in
    let shown = c.in-Ok.shown.now in
    let long : c.len.result ≡ length before = search rules in
    let counted = c.part-count.ensures.count ∙ ap (λ n. length (kept_line (max_kept - n) shown)) long in
    let last = c.part-count.ensures.last ∙ ap (λ n. is_last_line (max_kept - n) shown) long in
    let rested = c.fill_buf.follows.lender-at-none in
    let filled = subst (FillKeeps _ (g.R.Read.remaining rested) (g.R.BufRead.consumable_len rested)) c.in-Ok.is c.fill_buf.follows.holds-at-none in
    let moved = Consumes_shown _ _ _ _ shown c.part-count.result.0 (count_within before shown _ counted) c.in-Ok.ensures.front c.in-Ok.ensures.end filled.0 filled.1 c.consume.ensures.bytes in
    part_within _ _ before shown c.part-count.result.0 c.part-count.result.1 moved.0 counted last
