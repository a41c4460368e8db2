-- A crawl is played, which sends nothing.
use Rattle.std.proofs.Common.{◌≡◌, List, [], ◌∷◌, ◌++◌, Ok, map, ap, ◌∙◌}
use Rattle.wq_replay.specs.Stands.{all_sent, happening_data}
use Rattle.wq_replay.specs.World.{crawl}
use Rattle.wq_replay.specs.declared.happening.Happening.{Happening}
use Rattle.wq_replay.specs.declared.happening.Happening.TheVariants.{Crawl}
use Rattle.wq_replay.proofs.Steps.{crawl_runs}
use Rattle.wq_replay.proofs.step.crawl.Goals as goal

pub returns : goal.returns
returns c = λ before stands.
    let played = c.in_ok-play.ensures.runs before stands in
    let happened : map happening_data c.push.new.self.items ≡ crawl c.in_ok-root.root (Ok c.args.tree.now) ∷ [] =
    ap (map happening_data) c.in_ok-push.ensures.items
    ∙ ap (λ (xs : List Happening). map happening_data (xs ++ Crawl c.in_ok-root.root (Ok c.args.tree) ∷ [])) c.new-happenings.ensures.items in
    (played.0, crawl_runs before played.0 c.in_ok-root.root c.args.tree.now _ (all_sent c.in_ok-play.field-0.items) happened c.in_ok-root.ensures played.1, played.2)
