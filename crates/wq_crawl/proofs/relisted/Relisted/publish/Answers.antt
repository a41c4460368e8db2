-- What the listing came to was published.
use Rattle.std.proofs.Common.{rules, subst, w64}
use mir.Val.{SFits}
use Rattle.std.proofs.lemmas.Int.{to_z-of_z}
use Rattle.wq_crawl.specs.Crawl.{IsRelisted, IsTakable, crawler_at}
use Rattle.wq_crawl.proofs.Apart.{kept_apart}
use Rattle.wq_crawl.proofs.Publishing.{numbers_kept, pass_published, patches_published}
use Rattle.wq_crawl.proofs.relisted.Relisted.publish.Goals as goal

pub returns-in-Pass-clause-crawled : goal.returns-in-Pass-clause-crawled
returns-in-Pass-clause-crawled g c text before after over =
    pass_published c.args.number text c.args.publisher.now c.publish_pass.new.publisher before after c.publish_pass.result c.in-Pass.pass
    (subst (λ r. IsRelisted c.args.number text (crawler_at c.args.publisher.now before) r (crawler_at c.args.publisher.now after)) c.in-Pass.is over) c.publish_pass.ensures

pub returns-in-Pass-clause-shown : goal.returns-in-Pass-clause-shown
returns-in-Pass-clause-shown g c text =
    numbers_kept text c.args.publisher.now c.publish_pass.new.publisher c.args.number c.in-Pass.pass c.publish_pass.result c.publish_pass.ensures

pub returns-in-Patched-clause-crawled : goal.returns-in-Patched-clause-crawled
returns-in-Patched-clause-crawled g c text before after over =
    let fits : SFits w64 c.in-Patched.second = search rules in
    patches_published c.args.number text c.args.publisher.now c.publish_patches.new.publisher before after c.publish_patches.result c.in-Patched.patches c.deref.result.now c.in-Patched.second _
    (subst (λ r. IsRelisted c.args.number text (crawler_at c.args.publisher.now before) r (crawler_at c.args.publisher.now after)) c.in-Patched.is over)
    c.deref.ensures.value (to_z-of_z w64 c.in-Patched.second fits) c.publish_patches.ensures

pub returns-in-Patched-clause-shown : goal.returns-in-Patched-clause-shown
returns-in-Patched-clause-shown g c text =
    let fit = subst (IsTakable c.args.number c.args.publisher.now) c.in-Patched.is c.requires.fit in
    numbers_kept text c.args.publisher.now c.publish_patches.new.publisher c.args.number _ c.publish_patches.result (c.publish_patches.ensures fit.0 fit.1)

pub returns-in-Pass-clause-others : goal.returns-in-Pass-clause-others
returns-in-Pass-clause-others g c =
    kept_apart c.args.number c.args.publisher.now c.publish_pass.new.publisher c.in-Pass.pass c.publish_pass.result c.publish_pass.ensures

pub returns-in-Patched-clause-others : goal.returns-in-Patched-clause-others
returns-in-Patched-clause-others g c =
    let fit = subst (IsTakable c.args.number c.args.publisher.now) c.in-Patched.is c.requires.fit in
    kept_apart c.args.number c.args.publisher.now c.publish_patches.new.publisher _ c.publish_patches.result (c.publish_patches.ensures fit.0 fit.1)
