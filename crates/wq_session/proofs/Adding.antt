-- The programs that accepted calls add are those that asks hand in.
use Rattle.std.proofs.Common.{◌≡◌, ◌⊎◌, ℕ, List, [], ◌∷◌, ◌++◌, Option, Some, None, Result, Ok, Err, inl, inr, ap, subst}
use Rattle.serde_json.specs.Data.{Data}
use Rattle.serde_json.specs.View.{view as data_of}
use Rattle.wq_clock.specs.Instance.{InstanceData}
use Rattle.wq_view.specs.View.{ViewData}
use Rattle.wq_code.specs.declared.raw.Raw.{Raw}
use Rattle.wq_query.specs.Query.{QueryData, SinceData, at_bound, at_cursor}
use Rattle.wq_follow.specs.Definition.{DefinitionData}
use Rattle.wq_query.specs.Reading.{asks as queries}
use Rattle.wq_query.specs.declared.fault.QueryFault.{QueryFault}
use Rattle.wq_registry.specs.History.{AddsOne}
use Rattle.wq_ask.specs.declared.ask.Ask.{Ask}
use Rattle.wq_ask.specs.declared.ask.Ask.TheVariants.{Alone, OfRoot, OfShelf, Unwatch, Watch}
use Rattle.wq_ask.specs.declared.ask.RootAsk.{RootAsk}
use Rattle.wq_ask.specs.declared.ask.RootAsk.TheVariants.{AddTrigger, DeleteTrigger, Query as AsksQuery, Reads as ReadsRoot, Subscribe, Unsubscribe}
use Rattle.wq_ask.specs.declared.ask.ShelfAsk.TheVariants.{AddProgram, DeleteProgram, Reads as ReadsShelf}
use Rattle.wq_session.specs.declared.cursor.Cursor.{Cursor}
use Rattle.wq_ask.specs.declared.refusal.Refusal.{Refusal}
use Rattle.wq_session.specs.Accepted.{CallNow, AddedAreAsked, calls_of, cursor_calls, definition_calls, made_calls, query_calls, shown_calls, there_calls, unset_calls}
use Rattle.wq_session.specs.Trigger.{defined_by}
use Rattle.wq_crawl.specs.At.{AtData}
use Rattle.wq_session.specs.At.{ShelfNow}
use Rattle.wq_session.specs.Query.{program_for}
use Rattle.wq_session.specs.Round.{TriggerTurnData, turn_calls}

-- a call that adds a program is one of the first calls, or one of those after them
pub one_of : (raw : Raw) (calls more : List CallNow) → AddsOne raw (calls ++ more) → AddsOne raw calls ⊎ AddsOne raw more
one_of raw [] more one = inr one
one_of raw (c ∷ cs) more (inl here) = inl (inl here)
one_of raw (c ∷ cs) more (inr one) = at (one_of raw cs more one)
  where
    at : AddsOne raw cs ⊎ AddsOne raw more → AddsOne raw (c ∷ cs) ⊎ AddsOne raw more
    at (inl there) = inl (inr there)
    at (inr behind) = inr behind

neither : ⊥ ⊎ ⊥ → ⊥
neither (inl none) = none
neither (inr none) = none

-- the calls of a root add no program
cursor_none : (raw : Raw) (root : ℕ) (since : SinceData) (tick : ℕ) → AddsOne raw (cursor_calls root since tick) → ⊥
cursor_none raw root (at_bound bound) tick one = one
cursor_none raw root (at_cursor name) tick one = neither one

query_none : (raw : Raw) (root tick : ℕ) (q : Result QueryData QueryFault) → AddsOne raw (query_calls root tick q) → ⊥
query_none raw root tick (Ok q) one = cursor_none raw root q.since tick one
query_none raw root tick (Err fault) one = one

shown_none : (raw : Raw) (instance : InstanceData) (view : Option ViewData) (d : Data) → AddsOne raw (shown_calls instance view d) → ⊥
shown_none raw instance None d one = one
shown_none raw instance (Some view) d one = query_none raw instance.root view.tick (queries instance d) one

made_none : (raw : Raw) (root : List ℕ) (number : ℕ) (d : DefinitionData) (program : Result (Option Raw) Refusal) (shelf : ShelfNow)
    → AddsOne raw (made_calls root number d program shelf) → ⊥
made_none raw root number d (Ok program) shelf one = neither one
made_none raw root number d (Err refusal) shelf one = one

definition_none : (raw : Raw) (root : List ℕ) (number : ℕ) (d : Result DefinitionData Refusal) (shelf : ShelfNow)
    → AddsOne raw (definition_calls root number d shelf) → ⊥
definition_none raw root number (Ok d) shelf one = made_none raw root number d (program_for d.query shelf) shelf one
definition_none raw root number (Err refusal) shelf one = one

pub unset_none : (raw : Raw) (cursor : Option Cursor) → AddsOne raw (unset_calls cursor) → ⊥
unset_none raw None one = one
unset_none raw (Some cursor) one = neither one

-- nor do those of turns in a round
pub turns_none : (raw : Raw) (root : ℕ) (turns : List TriggerTurnData) → AddsOne raw (turn_calls root turns) → ⊥
turns_none raw root [] one = one
turns_none raw root (turn ∷ turns) (inl none) = none
turns_none raw root (turn ∷ turns) (inr one) = turns_none raw root turns one

-- the calls of an ask of a root add none
there_none : (raw : Raw) (what : RootAsk) (root : List ℕ) (at : AtData) (shelf : ShelfNow) → AddsOne raw (there_calls what root at shelf) → ⊥
there_none raw (ReadsRoot what) root at shelf one = one
there_none raw (AsksQuery q) root at shelf one = shown_none raw at.instance at.view (data_of q) one
there_none raw (Subscribe name q) root at shelf one = one
there_none raw (Unsubscribe name) root at shelf one = one
there_none raw (AddTrigger t) root at shelf one = definition_none raw root (at.instance).root (defined_by at.instance (data_of t)) shelf one
there_none raw (DeleteTrigger name) root at shelf one = neither one

-- a program that the calls of an ask add is the one that the ask hands in
asked : (raw : Raw) (ask : Ask) (at : Option AtData) (shelf : ShelfNow) → AddsOne raw (calls_of ask at shelf)
    → (name : List ℕ) × (ask ≡ OfShelf (AddProgram name raw))
asked raw (OfShelf (AddProgram name program)) at shelf (inl same) = (name, ap (λ p. OfShelf (AddProgram name p)) same)
asked raw (OfShelf (AddProgram name program)) at shelf (inr one) = absurd one
asked raw (OfShelf (DeleteProgram name)) at shelf one = absurd (neither one)
asked raw (OfShelf (ReadsShelf what)) at shelf one = absurd one
asked raw (Watch root) None shelf one = absurd one
asked raw (Watch root) (Some at) shelf one = absurd (neither one)
asked raw (Unwatch root) None shelf one = absurd one
asked raw (Unwatch root) (Some at) shelf one = absurd (neither one)
asked raw (OfRoot root crawl what) None shelf one = absurd one
asked raw (OfRoot root crawl what) (Some at) shelf one = absurd (there_none raw what root at shelf one)
asked raw (Alone what) None shelf one = absurd one
asked raw (Alone what) (Some at) shelf one = absurd one

-- the law
pub added_are_asked : AddedAreAsked
added_are_asked may_go ask at shelf follows out calls raw (inl (begun, is, gave, same)) one = asked raw ask at shelf (subst (AddsOne raw) same one)
added_are_asked may_go ask at shelf follows out calls raw (inr (inl (refusal, is, gave, same))) one = absurd (subst (AddsOne raw) same one)
added_are_asked may_go ask at shelf follows out calls raw (inr (inr (inl (takes, gave, same)))) one = absurd (subst (AddsOne raw) same one)
added_are_asked may_go ask at shelf follows out calls raw (inr (inr (inr (begun, plan, cursor, is, work, gave, same)))) one =
    mine (one_of raw (calls_of ask at shelf) (unset_calls cursor) (subst (AddsOne raw) same one))
  where
    mine : AddsOne raw (calls_of ask at shelf) ⊎ AddsOne raw (unset_calls cursor) → (name : List ℕ) × (ask ≡ OfShelf (AddProgram name raw))
    mine (inl own) = asked raw ask at shelf own
    mine (inr unset) = absurd (unset_none raw cursor unset)
