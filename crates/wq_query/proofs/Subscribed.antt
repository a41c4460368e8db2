-- The query of a subscription has no generators and no cursor.
use Rattle.std.proofs.Common.{◌≡◌, Bool, true, false, ◌||◌, is_some, codes, Option, Some, None}
use Rattle.std.proofs.Common.{Result, Ok, Err, refl, sym, ap, subst, ◌∙◌}
use Rattle.std.proofs.Common.{if◌then◌else◌}
use Rattle.std.specs.Option.{MatchOption, option_and_then}
use Rattle.serde_json.specs.Data.{Data}
use Rattle.serde_json.specs.Find.{get}
use Rattle.wq_clock.specs.Instance.{InstanceData}
use Rattle.wq_clock.specs.Law.{TextsSayWhatTheySpell}
use Rattle.wq_clock.specs.declared.bound.Bound.TheVariants.{Fresh}
use Rattle.wq_query.specs.declared.fault.QueryFault.{QueryFault}
use Rattle.wq_query.specs.declared.fault.QueryFault.TheVariants.{BadGenerator, BadClockSpec}
use Rattle.wq_query.specs.Glob.{glob_flags}
use Rattle.wq_query.specs.Grammar.{AreGlobs, AreSuffixes, ArePaths, IsSinceKey}
use Rattle.wq_query.specs.Law.{ValuesAskWhatTheyWrite}
use Rattle.wq_query.specs.Query.{QueryData, SinceData, at_bound, at_cursor, since_cursor}
use Rattle.wq_query.specs.Reading.{asks, cursor_in}
use Rattle.wq_query.specs.Subscribed.{SubscriptionsArePlain, comes_first, has_cursor}
use Rattle.wq_query.specs.Subscribed.{has_generator, without_generators}
use Rattle.wq_query.proofs.Grammar.{cursor-reads}

-- the query of a subscription is the one that its object asks, without a generator and without a cursor
kept : (asked : Result QueryData QueryFault) (generator cursor : Bool) (query : QueryData)
    → without_generators asked generator cursor ≡ Ok query
    → (asked ≡ Ok query) × (generator ≡ false) × (cursor ≡ false)
kept (Ok q) false false query is = (is, refl, refl)
kept (Ok q) false true query is = absurd (cc is)
kept (Ok q) true cursor query is = absurd (cc is)
kept (Err fault) generator cursor query is = absurd (at (comes_first fault) generator cursor is)
  where
    at : (first generator cursor : Bool) → (if first then Err fault
        else if generator then Err BadGenerator else if cursor then Err BadClockSpec else Err fault) ≡ Ok query → ⊥
    at true generator cursor is = cc is
    at false true cursor is = cc is
    at false false true is = cc is
    at false false false is = cc is

neither : (a b c : Option Data) → (is_some a || is_some b || is_some c) ≡ false → (a ≡ None) × (b ≡ None) × (c ≡ None)
neither None None None e = (refl, refl, refl)
neither None None (Some c) e = absurd (cc e)
neither None (Some b) c e = absurd (cc e)
neither (Some a) b c e = absurd (cc e)

no_cursor : TextsSayWhatTheySpell → (instance : InstanceData) (o : Option Data) (since : SinceData)
    → is_some (option_and_then cursor_in o) ≡ false
    → MatchOption o (since ≡ at_bound Fresh) (IsSinceKey instance since) → since_cursor since ≡ None
no_cursor texts instance o (at_bound bound) none h = refl
no_cursor texts instance None (at_cursor name) none h = absurd (cc h)
no_cursor texts instance (Some d) (at_cursor name) none h =
    absurd (cc (ap is_some (sym (cursor-reads texts d name h)) ∙ none))

-- the law
pub subscriptions_are_plain : TextsSayWhatTheySpell → ValuesAskWhatTheyWrite → SubscriptionsArePlain
subscriptions_are_plain texts values instance d query is =
    let asked = kept (asks instance d) (has_generator d) (has_cursor d) query is in
    let keys = neither (get (codes "suffix") d) (get (codes "path") d) (get (codes "glob") d) asked.1 in
    let written = (values instance query d).0 asked.0 in
    record {
      suffix = subst (λ o. MatchOption o (query.suffix ≡ None) (AreSuffixes query.suffix)) keys.0 written.suffix;
      path = subst (λ o. MatchOption o (query.path ≡ None) (ArePaths query.path)) keys.1 written.path;
      glob = subst (λ o. MatchOption o (query.glob ≡ None) (AreGlobs (glob_flags (get (codes "glob_includedotfiles") d)) query.glob)) keys.2 written.glob;
      since = no_cursor texts instance (get (codes "since") d) query.since asked.2 written.since;
    }
