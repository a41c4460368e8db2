-- The reply to a query, at the root that is looked at and a shelf.
use Rattle.std.proofs.Common.{◌≡◌, ℕ, Bool, true, false, not, List, Option, Some, None, Result, Ok, Err, IfSome, inl, inr, refl, ap, sym, subst, ◌∙◌}
use Rattle.serde_json.specs.Data.{Data}
use Rattle.serde_json.specs.View.{view as data_of}
use Rattle.serde_json.specs.declared.value.Value.{Value}
use Rattle.std.specs.Option.{option_map_or}
use Rattle.wq_session.specs.Out.{OutData, replies, silence}
use Rattle.wq_ask.specs.declared.ask.Ask.TheVariants.{OfRoot}
use Rattle.wq_ask.specs.declared.ask.RootAsk.TheVariants.{Query as AsksQuery}
use Rattle.wq_ask.specs.declared.refusal.Refusal.{Refusal}
use Rattle.wq_ask.specs.declared.refusal.Refusal.TheVariants.{NoSuchProgram, NotWatched, ProgramTooLarge, Query, ShelfFull}
use Rattle.wq_base.specs.Fault.{or_fault, or_its_fault, or_own_fault, unless_fault}
use Rattle.wq_code.specs.declared.raw.Raw.{Raw}
use Rattle.wq_compile.specs.Large.{is_too_large}
use Rattle.wq_follow.specs.Subscription.{SubscriptionData}
use Rattle.wq_query.specs.Query.{QueryData}
use Rattle.wq_query.specs.Reading.{asks as query_of}
use Rattle.wq_reply.specs.Reply.{reply_of}
use Rattle.wq_query.specs.declared.fault.QueryFault.{QueryFault}
use Rattle.wq_registry.specs.ByName.{under}
use Rattle.wq_session.specs.Answer.{AnswersAsk, finished}
use Rattle.wq_crawl.specs.At.{AtData}
use Rattle.wq_session.specs.At.{ShelfNow, watched}
use Rattle.wq_session.specs.Begun.{or_refused}
use Rattle.wq_session.specs.Query.{begun_read_query, has_place, moved_cursor, plan_at, program_for, program_named, begun_query, used_at}
use Rattle.wq_session.specs.Work.{BegunData, evaluates}
use Rattle.wq_session.proofs.Before.{there}
use Rattle.wq_verify.specs.Typing.{IsValid}
use Rattle.wq_view.specs.View.{ViewData}
use Rattle.wq_headline.specs.Exact.{IsReplyAt, ListsExactly}

-- the beginning of a query, of its parts
abbrev begun_of : ℕ → ℕ → QueryData → Option Raw → ShelfNow → BegunData
begun_of root tick q program shelf = record {
  work = evaluates (plan_at root q program shelf) (moved_cursor root q.since);
  shelf = used_at root q.since tick shelf;
}

module _ (shelf : ShelfNow) (valid : (name : List ℕ) (raw : Raw) → under name shelf.programs ≡ Some raw → IsValid raw) where
  -- the program that a query names may run
  named_valid : (name : Option (List ℕ)) (q : QueryData) (program : Option Raw) → program_named name q shelf ≡ Ok program → IfSome program IsValid
  named_valid None q program is = by (not (is_too_large q.expression)) is
    where
      by : (b : Bool) → unless_fault ProgramTooLarge b (Ok None) ≡ Ok program → IfSome program IsValid
      by true is = let same : None ≡ program = cc is in subst (λ p. IfSome p IsValid) same tt
      by false is = absurd cc
  named_valid (Some name) q program is = by (under name shelf.programs) refl is
    where
      by : (kept : Option Raw) → under name shelf.programs ≡ kept → or_fault NoSuchProgram kept (λ raw. Ok (Some raw)) ≡ Ok program → IfSome program IsValid
      by None there is = absurd cc
      by (Some raw) there is =
          let same : Some raw ≡ program = cc is in subst (λ p. IfSome p IsValid) same (valid name raw there)

  module _ (root : List ℕ) (d : Data) (at : Option AtData) (follows : List SubscriptionData) (out : OutData) where
    -- the output when the work that was begun is done
    abbrev Gives : Result BegunData Refusal → Type 0
    Gives begun = out ≡ (finished (or_refused begun shelf).work at follows).out

    -- work of a plan gives its reply
    lists : (here : AtData) (view : ViewData) (query : QueryData) (program : Option Raw) (begun : BegunData) → watched root at shelf ≡ Some here → here.view ≡ Some view
        → query_of here.instance d ≡ Ok query → program_for query shelf ≡ Ok program
        → begun_of (here.instance).root view.tick query program shelf ≡ begun
        → Gives (Ok begun) → ListsExactly here shelf d out
    lists here view query program begun found shown asks named is gives = record {
      view = view;
      shown = shown;
      query = query;
      asks = asks;
      program = program;
      named = named;
      valid = named_valid query.program query program named;
      told = gives ∙ ap (λ (b : BegunData). (finished b.work at follows).out) (sym is)
          ∙ ap (λ a. (finished (evaluates (plan_at (here.instance).root query program shelf) (moved_cursor (here.instance).root query.since)) a follows).out) (there root at shelf here found)
          ∙ ap (λ v. option_map_or (λ view. replies (reply_of (plan_at (here.instance).root query program shelf) here.instance view)) v (silence true)) shown;
    }

    -- a query that was begun lists its files
    begun_lists : (here : AtData) (begun : BegunData) → watched root at shelf ≡ Some here → begun_query d here shelf ≡ Ok begun → Gives (Ok begun) → ListsExactly here shelf d out
    begun_lists here begun there is gives = at_view here.view refl is
      where
        at_program : (view : ViewData) (query : QueryData) (program : Result (Option Raw) Refusal) → here.view ≡ Some view → query_of here.instance d ≡ Ok query
            → program_for query shelf ≡ program
            → or_own_fault program (λ program. unless_fault ShelfFull (has_place (here.instance).root query.since shelf)
            (Ok (begun_of (here.instance).root view.tick query program shelf)))
            ≡ Ok begun → ListsExactly here shelf d out
        at_program view query (Err fault) shown asks named is = absurd cc
        at_program view query (Ok program) shown asks named is = by (has_place (here.instance).root query.since shelf) is
          where
            by : (b : Bool) → unless_fault ShelfFull b
                (Ok (begun_of (here.instance).root view.tick query program shelf))
                ≡ Ok begun → ListsExactly here shelf d out
            by true is =
                let same : begun_of (here.instance).root view.tick query program shelf ≡ begun = cc is in
                lists here view query program begun there shown asks named same gives
            by false is = absurd cc

        at_query : (view : ViewData) (query : Result QueryData QueryFault) → here.view ≡ Some view → query_of here.instance d ≡ query
            → or_its_fault Query query (λ q. begun_read_query (here.instance).root view.tick q shelf) ≡ Ok begun → ListsExactly here shelf d out
        at_query view (Err fault) shown asks is = absurd cc
        at_query view (Ok query) shown asks is = at_program view query (program_for query shelf) shown asks refl is

        at_view : (view : Option ViewData) → here.view ≡ view
            → or_fault NotWatched view (λ view. or_its_fault Query (query_of here.instance d) (λ q. begun_read_query (here.instance).root view.tick q shelf)) ≡ Ok begun
            → ListsExactly here shelf d out
        at_view None shown is = absurd cc
        at_view (Some view) shown is = at_query view (query_of here.instance d) shown refl is

    -- the reply of the work that was begun at what is watched
    reply_there : (there : Option AtData) (begun : Result BegunData Refusal) → watched root at shelf ≡ there
        → or_fault NotWatched there (λ at. begun_query d at shelf) ≡ begun → Gives begun → IsReplyAt root d at shelf out
    reply_there there (Err refusal) is reason gives =
        inr (inl (refusal, ap (λ w. or_fault NotWatched w (λ at. begun_query d at shelf)) is ∙ reason, gives))
    reply_there None (Ok begun) is reason gives = absurd cc
    reply_there (Some here) (Ok begun) is reason gives = inl (here, is, begun_lists here begun is reason gives)

    reply_at : Gives (or_fault NotWatched (watched root at shelf) (λ at. begun_query d at shelf)) → IsReplyAt root d at shelf out
    reply_at gives = reply_there (watched root at shelf) (or_fault NotWatched (watched root at shelf) (λ at. begun_query d at shelf)) refl refl gives

  -- the reply to an ask for files
  pub query_reply : (root : List ℕ) (crawl : Bool) (q : Value) (at : Option AtData) (follows left : List SubscriptionData) (out : OutData) (after : ShelfNow)
      → AnswersAsk false (OfRoot root crawl (AsksQuery q)) at shelf follows out after left → IsReplyAt root (data_of q) at shelf out
  query_reply root crawl q at follows left out after (inl is) = reply_at root (data_of q) at follows out (ap (λ a. (a.done).out) (sym is))
  query_reply root crawl q at follows left out after (inr (inl (takes, is, same, stays))) = inr (inr is)
  query_reply root crawl q at follows left out after (inr (inr (plan, cursor, work, is, unset, stays))) = inr (inr is)
