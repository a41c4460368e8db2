-- The tables are equal, one after the other.
use Rattle.std.proofs.Common.{rules, ◌≡◌, sym, ◌∙◌}
use Rattle.wq_verify.proofs.Words.{one_raw}
use Rattle.wq_verify.proofs.same.RawSame.is_same.Goals as goal

pub returns : goal.returns
returns c = λ last.
    let nums : c.as_slice.result.now ≡ c.as_slice-2.result.now = search rules in
    let texts : c.as_slice-3.result.now ≡ c.as_slice-4.result.now = search rules in
    let lists : c.as_slice-5.result.now ≡ c.as_slice-6.result.now = search rules in
    let patterns : c.as_slice-7.result.now ≡ c.as_slice-8.result.now = search rules in
    let sets : c.as_slice-9.result.now ≡ c.as_slice-10.result.now = search rules in
    let code : c.as_slice-11.result.now ≡ c.as_slice-12.result.now = c.all_same-6.ensures last in
    one_raw c.args.self.now c.args.other.now (sym c.as_slice.ensures ∙ nums ∙ c.as_slice-2.ensures)
    (sym c.as_slice-3.ensures ∙ texts ∙ c.as_slice-4.ensures) (sym c.as_slice-5.ensures ∙ lists ∙ c.as_slice-6.ensures)
    (sym c.as_slice-7.ensures ∙ patterns ∙ c.as_slice-8.ensures) (sym c.as_slice-9.ensures ∙ sets ∙ c.as_slice-10.ensures)
    (sym c.as_slice-11.ensures ∙ code ∙ c.as_slice-12.ensures)
