-- The texts of the roots, with the meaning of the triggers.
use Rattle.std.proofs.Common.{ap, map, sym, ◌∙◌}
use Rattle.serde_json.specs.Data.{string}
use Rattle.wq_session.proofs.Shelves.{if_ok_with, texts_now}
use Rattle.wq_session.specs.Watch.{root_texts}
use Rattle.wq_session.proofs.command.watch.texts_on.Goals as goal

pub returns : goal.returns
returns c =
    if_ok_with c.texts.result (λ values is. is ∙ ap (λ roots. map string (root_texts roots)) c.roots.ensures ∙ ap (map string) (sym (texts_now c.args.shelf.now)))
    c.texts.ensures
