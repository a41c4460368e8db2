-- Each word is an argument, or the first word that is none refuses the list.
use Rattle.std.proofs.Common.{◌≡◌, ◌+◌, [], ◌∷◌, ◌++◌, drop, option_map, refl, sym, ap, ◌∙◌}
use Rattle.std.proofs.Math.ListN.{drop_of_length-le}
use Rattle.serde_json.specs.View.{items_view}
use Rattle.wq_base.proofs.Fault.{before, before-end}
use Rattle.wq_query.proofs.Names.{read_more, read_none}
use Rattle.wq_follow.specs.Definition.{argument_of, arguments_in}
use Rattle.wq_follow.proofs.shape.arguments.Goals as goal

pub returns-in_default : goal.returns-in_default
returns-in_default c =
    let is = sym c.argument.ensures ∙ ap (option_map (λ text. text.now)) c.in_default.is in
    sym (read_none argument_of arguments_in (λ d ds. refl) c.args.words.now c.loop-word.word-index c.word-item.result c.loop-word.texts _ c.loop-word-test.true c.word-item.is is c.loop-word.invariant)

pub loop-word-preserved : goal.loop-word-preserved
loop-word-preserved c =
    let is = sym c.argument.ensures ∙ ap (option_map (λ text. text.now)) c.in-Some.is in
    let more = read_more argument_of arguments_in (λ d ds. refl) c.args.words.now c.loop-word.word-index c.word-item.result c.loop-word.texts c.in-Some.text.now _ c.loop-word-test.true c.word-item.is is c.loop-word.invariant in
    ap (λ texts. before texts (arguments_in (items_view (drop (c.loop-word.word-index + 1) c.args.words.now))))
    (c.in_ok-push.ensures.ok ∙ ap (λ text. c.loop-word.texts ++ text ∷ []) c.in_ok-copied.ensures) ∙ more

pub returns : goal.returns
returns c =
    let none : drop c.loop-word.word-index c.args.words.now ≡ [] = drop_of_length-le c.args.words.now c.loop-word-test.false in
    sym (sym c.loop-word.invariant ∙ ap (λ left. before c.loop-word.texts (arguments_in (items_view left))) none ∙ before-end c.loop-word.texts)
