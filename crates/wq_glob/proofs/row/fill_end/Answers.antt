use Rattle.std.proofs.Common.{length-set, ap, arith, ◌+◌, ◌-◌, ◌≡◌}
use Rattle.wq_glob.specs.declared.row.Cell.{Cell}
use Rattle.wq_glob.proofs.EndLemmas.{end_none, end_more, end_row, end_window, low_none}
use Rattle.wq_glob.proofs.SeenLemmas.{ended_cells}
use Rattle.wq_glob.proofs.row.fill_end.Goals as goal

pub loop-low-init : goal.loop-low-init
loop-low-init c = record {
  within = omega arith;
  ends = λ f. end_none f _ _ _ c.fit.ensures c.requires.room c.requires.blank;
}

pub loop-low-preserved : goal.loop-low-preserved
loop-low-preserved c =
    let next : c.loop-low.low - 1 + 1 ≡ c.loop-low.low = omega arith in
    record {
      within = omega arith;
      ends = λ f.
          let was = c.loop-low.invariant.ends f in
          end_more f _ _ c.loop-low.low _ _ next c.fit-in-loop-low.ensures (omega (arith, length-set {A = Cell})) was (c.loop-low-test.ensures.skipped f was.fitting);
    }

pub returns-clause-row : goal.returns-clause-row
returns-clause-row c f =
    let was = c.loop-low.invariant.ends f in end_row f _ _ c.loop-low.low was (c.loop-low-test.ensures.skipped f was.fitting)

pub returns-clause-lives : goal.returns-clause-lives
returns-clause-lives c f =
    let was = c.loop-low.invariant.ends f in end_window f _ c.loop-low.row _ (omega arith) was (c.loop-low-test.ensures.skipped f was.fitting)

pub returns-clause-cells : goal.returns-clause-cells
returns-clause-cells c f =
    let was = c.loop-low.invariant.ends f in
    ended_cells f _ c.loop-low.low was.within was.each
    (λ j before. ap (λ (e : Cell). e.fits) (low_none f _ c.loop-low.low was.within (c.loop-low-test.ensures.skipped f was.fitting) j before))
