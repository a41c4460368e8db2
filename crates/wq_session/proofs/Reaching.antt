-- Sessions and rounds at a shelf lead on from there, as accepted calls do.
use Rattle.std.proofs.Common.{◌≡◌, ◌⊎◌, ℕ, false, List, [], ◌∷◌, ◌++◌, Option, Some, inl, inr, refl, sym, ap, subst, ◌∙◌}
use Rattle.wq_clock.specs.Instance.{InstanceData}
use Rattle.wq_code.specs.declared.raw.Raw.{Raw}
use Rattle.wq_follow.specs.Launcher.{LauncherData}
use Rattle.wq_registry.specs.ByName.{under}
use Rattle.wq_registry.specs.History.{AddsOne, after_all, unsets_cursor}
use Rattle.wq_registry.specs.Shelf.{blank, cursor_unset}
use Rattle.wq_registry.proofs.Added.{programs_were_added}
use Rattle.wq_ask.specs.HandedIn.{HandsInValid}
use Rattle.wq_session.specs.Out.{settled}
use Rattle.wq_session.specs.Accepted.{AddedAreAsked, AnswersAreCalls, CallNow}
use Rattle.wq_session.specs.Answer.{TakesAsk, finished}
use Rattle.wq_session.specs.Round.{IsRound, RoundsAreCalls, turn_calls}
use Rattle.wq_verify.specs.Typing.{IsValid}
use Rattle.wq_view.specs.View.{ViewData}
use Rattle.wq_ask.specs.declared.ask.Ask.{Ask}
use Rattle.wq_session.specs.Work.{WorkData}
use Rattle.wq_crawl.specs.At.{AtData}
use Rattle.wq_session.specs.At.{ShelfNow}
use Rattle.wq_session.specs.Reached.{TurnData, takes, unsets, rounds, Turns, LeadsToShelf, IsReached, ReachedByCalls, ReachedProgramsAreValid}
use Rattle.wq_session.proofs.Adding.{one_of, turns_none, unset_none}
use Rattle.wq_session.proofs.Ending.{none_named}
use Rattle.wq_session.proofs.Held.{none_unset}

-- an ask is taken
pub take_reached : (ask : Ask) (at : Option AtData) (shelf left : ShelfNow) (work : WorkData)
    → HandsInValid ask → TakesAsk ask at shelf work left → IsReached shelf → IsReached left
unfolding IsReached
take_reached ask at shelf left work valid taken (sockname, turns, led) = (sockname, takes ask at work ∷ turns, (shelf, led, (valid, taken)))

-- a cursor is unset
pub unset_reached : (root : ℕ) (name : List ℕ) (shelf : ShelfNow) → IsReached shelf → IsReached (cursor_unset root name shelf)
unfolding IsReached
unset_reached root name shelf (sockname, turns, led) = (sockname, unsets root name ∷ turns, (shelf, led, refl))

-- the triggers of a root have a round
pub round_reached : (instance : InstanceData) (view : ViewData) (shelf left : ShelfNow) (shown after : Option LauncherData)
    → IsRound instance view shelf shown left after → IsReached shelf → IsReached left
unfolding IsReached
round_reached instance view shelf left shown after round (sockname, turns, led) =
    (sockname, rounds instance view shown after ∷ turns, (shelf, led, round))

pub after_both : (first later : List CallNow) (shelf : ShelfNow) → after_all (first ++ later) shelf ≡ after_all later (after_all first shelf)
after_both [] later shelf = refl
after_both (c ∷ cs) later shelf = after_both cs later _

module _ (answers_are_calls : AnswersAreCalls) (rounds_are_calls : RoundsAreCalls) (added_are_asked : AddedAreAsked) where
  -- calls that lead from one shelf to another; each program that they add may run
  record Leads (before after : ShelfNow) : Type 0 where
    calls : List CallNow
    is : after ≡ after_all calls before
    valid : (raw : Raw) → AddsOne raw calls → IsValid raw

  -- the calls of an act
  by_act : (turn : TurnData) (before after : ShelfNow) (sockname : List ℕ) (first : List CallNow) → before ≡ after_all first (blank sockname)
      → Turns turn before after → Leads before after
  by_act (takes ask at work) before after sockname first is (valid, taken) =
      let done = finished work at [] in
      let answers =
      none_unset false ask at [] done.follows work done.out (settled done.out) before after taken (inl refl) refl (none_named work at []) in
      let it = answers_are_calls false ask at before [] (settled done.out) after done.follows answers in
      record {
        calls = it.0;
        is = it.2;
        valid = λ raw one. subst HandsInValid (added_are_asked false ask at before [] (settled done.out) it.0 raw it.1 one).1 valid;
      }
  by_act (unsets root name) before after sockname first is unset = record {
    calls = unsets_cursor root name ∷ [];
    is = unset;
    valid = λ raw one. absurd (unset_none raw (Some (record { root = root; name = name })) one);
  }
  by_act (rounds instance view shown left) before after sockname first is round =
      let r = subst (λ s. IsRound instance view s shown after left) is round in record {
        calls = turn_calls instance.root r.turns;
        is = rounds_are_calls instance view first sockname shown after left r ∙ ap (after_all (turn_calls instance.root r.turns)) (sym is);
        valid = λ raw one. absurd (turns_none raw instance.root r.turns one);
      }

  by_acts : (sockname : List ℕ) (turns : List TurnData) (shelf : ShelfNow) → LeadsToShelf sockname turns shelf → Leads (blank sockname) shelf
  by_acts sockname [] shelf is = record { calls = []; is = is; valid = λ raw none. absurd none }
  by_acts sockname (last ∷ earlier) shelf (before, led, turned) =
      let first = by_acts sockname earlier before led in
      let one = by_act last before shelf sockname first.calls first.is turned in
      record {
        calls = first.calls ++ one.calls;
        is = one.is ∙ ap (after_all one.calls) first.is ∙ sym (after_both first.calls one.calls (blank sockname));
        valid = λ raw some. either raw first.calls one.calls first.valid one.valid (one_of raw first.calls one.calls some);
      }
    where
      either : (raw : Raw) (a b : List CallNow) → ((raw : Raw) → AddsOne raw a → IsValid raw) → ((raw : Raw) → AddsOne raw b → IsValid raw)
          → AddsOne raw a ⊎ AddsOne raw b → IsValid raw
      either raw a b mine others (inl one) = mine raw one
      either raw a b mine others (inr one) = others raw one

  -- the laws
  pub reached_by_calls : ReachedByCalls
  unfolding IsReached
  reached_by_calls shelf (sockname, turns, led) =
      let all = by_acts sockname turns shelf led in (sockname, all.calls, all.is)

  pub reached_programs_are_valid : ReachedProgramsAreValid
  unfolding IsReached
  reached_programs_are_valid shelf name raw (sockname, turns, led) is =
      let all = by_acts sockname turns shelf led in
      all.valid raw (programs_were_added all.calls sockname name raw (sym (ap (λ s. under name s.programs) all.is) ∙ is))
