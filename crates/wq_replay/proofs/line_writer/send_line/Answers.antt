-- If a part of the line is not written whole, a front of the line was written.
use Rattle.std.proofs.Common.{◌++◌, codes, ap, subst, ◌∙◌}
use mir.Facts.{to_z-of_z}
use Rattle.std.specs.Fmt.{signed_decimal}
use Rattle.std.proofs.lemmas.Result.{on_err_weaker, on_ok_weaker}
use Rattle.std.specs.Io.KnownBytes.{Appends}
use Rattle.wq_base.specs.Writing.{WritesFront}
use Rattle.wq_base.proofs.Fronts.{appends_then, front_before, front_behind, on_err}
use Rattle.wq_replay.proofs.line_writer.send_line.Goals as goal

pub returns-in_err-write_all-clause-front : goal.returns-in_err-write_all-clause-front
returns-in_err-write_all-clause-front g c = λ text is.
    let number = c.as_bytes.ensures.value ∙ c.format.ensures.text ∙ ap signed_decimal (to_z-of_z c.ranges.client) in
    on_err c.from_residual.result
    (front_before _ _ (signed_decimal c.args.client) (codes " " ++ (text ++ codes "\n")) (subst (WritesFront _ _) number c.in_err-write_all.ensures.front))

pub returns-in_err-write_all-2-clause-front : goal.returns-in_err-write_all-2-clause-front
returns-in_err-write_all-2-clause-front g c = λ text is.
    let number = c.as_bytes.ensures.value ∙ c.format.ensures.text ∙ ap signed_decimal (to_z-of_z c.ranges.client) in
    on_err c.from_residual-in_err-write_all-2.result
    (front_behind _ _ _ (signed_decimal c.args.client) (codes " " ++ (text ++ codes "\n")) (subst (Appends _ _) number c.in_ok-write_all.ensures.done)
    (front_before _ _ (codes " ") (text ++ codes "\n") c.in_err-write_all-2.ensures.front))

pub returns-clause-front : goal.returns-clause-front
returns-clause-front g c = λ text is.
    let number = c.as_bytes.ensures.value ∙ c.format.ensures.text ∙ ap signed_decimal (to_z-of_z c.ranges.client) in
    on_err_weaker c.write_line.result (λ last.
    front_behind _ _ _ (signed_decimal c.args.client) (codes " " ++ (text ++ codes "\n")) (subst (Appends _ _) number c.in_ok-write_all.ensures.done)
    (front_behind _ _ _ (codes " ") (text ++ codes "\n") c.in_ok-write_all-2.ensures.done (subst (WritesFront _ _) is last)))
    c.write_line.ensures.front

pub returns-clause-done : goal.returns-clause-done
returns-clause-done g c = λ text is.
    let number = c.as_bytes.ensures.value ∙ c.format.ensures.text ∙ ap signed_decimal (to_z-of_z c.ranges.client) in
    on_ok_weaker c.write_line.result (λ last.
    appends_then _ _ _ (signed_decimal c.args.client) (codes " " ++ (text ++ codes "\n")) (subst (Appends _ _) number c.in_ok-write_all.ensures.done)
    (appends_then _ _ _ (codes " ") (text ++ codes "\n") c.in_ok-write_all-2.ensures.done (subst (Appends _ _) is last)))
    c.write_line.ensures.done
