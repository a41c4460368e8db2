-- The root that has the text, with its number.
use Rattle.std.proofs.Common.{rules, ◌≡◌, ◌∙◌, Some, None, ap, option_map, sym}
use Rattle.wq_registry.specs.Root.{called}
use Rattle.wq_session.proofs.Rooted.{number_there}
use Rattle.wq_session.proofs.Shelves.{not_watched, other_number, same_number}
use Rattle.wq_crawl.specs.At.{at_data}
use Rattle.wq_session.proofs.at.watched.Goals as goal

pub returns-then-at-number-clause-there : goal.returns-then-at-number-clause-there
returns-then-at-number-clause-there c =
    number_there c.args.root.now c.in_ok-at.at.instance.root c.args.shelf.now.roots c.in_ok-root.root.now (search rules) (search rules)

pub returns-in_err-root-clause-value : goal.returns-in_err-root-clause-value
returns-in_err-root-clause-value c =
    let none : called c.args.root.now c.args.shelf.now.roots ≡ None = search rules in
    let result : c.from_residual-in_err-root.result ≡ None = search rules in
    let at : option_map at_data c.args.at ≡ Some (at_data c.in_ok-at.at) = search rules in
    ap (option_map at_data) result ∙ sym (not_watched c.args.root.now (option_map at_data c.args.at) c.args.shelf.now none)

pub returns-then-at-number-clause-value : goal.returns-then-at-number-clause-value
returns-then-at-number-clause-value c =
    let there : called c.args.root.now c.args.shelf.now.roots ≡ Some c.in_ok-root.root.now = search rules in
    let at : option_map at_data c.args.at ≡ Some (at_data c.in_ok-at.at) = search rules in
    sym (same_number c.args.root.now (option_map at_data c.args.at) c.args.shelf.now (at_data c.in_ok-at.at) c.in_ok-root.root.now at there (search rules))

pub returns-else-at-number-clause-value : goal.returns-else-at-number-clause-value
returns-else-at-number-clause-value c =
    let there : called c.args.root.now c.args.shelf.now.roots ≡ Some c.in_ok-root.root.now = search rules in
    let at : option_map at_data c.args.at ≡ Some (at_data c.in_ok-at.at) = search rules in
    sym (other_number c.args.root.now (option_map at_data c.args.at) c.args.shelf.now (at_data c.in_ok-at.at) c.in_ok-root.root.now at there (search rules))
