-- A session that is served alone is one run of the world.
use Rattle.std.proofs.Common.{◌≡◌, ◌⊎◌, ℕ, ℤ, Bool, true, List, [], ◌∷◌, ◌++◌, map, codes, Option, Some, None, inl, inr, refl, ap, sym, subst, ◌∙◌, append-nil, append_assoc}
use mathlib.Core.Bool.{false≢true}
use Rattle.std.proofs.lemmas.List.{map-append}
use Rattle.wq_clock.specs.Run.{run_data}
use Rattle.wq_replay.proofs.Worlds.{runs_go_on}
use Rattle.wq_replay.specs.Playing.{Runs, sent_for, sent_list, sent_to}
use Rattle.wq_replay.specs.World.{HappeningData, SentData, WorldData}
use Rattle.wq_crawl.specs.Basis.{Basis}
use Rattle.wq_session.specs.Serving.{PlaceData, line_for, lines_for, written_for}
use Rattle.wq_session.specs.Out.{OutData}
use Rattle.wq_session.proofs.Lines.{lines_both}
use Rattle.wq_stream.specs.declared.event.Event.{Event}
use Rattle.wq_view.specs.View.{HasOneView}
use Rattle.wq_headline.specs.Alone.{AloneGoesOn, EndsShowAWorld, GoingOnIsARun, HasGone, HappensFor, HappensInTurn, IsRunFor, IsRunOf, ServedAloneIsARun, ShowsWorld, WasBlind, WasBlindOnce, written_of}
use Rattle.wq_headline.proofs.Events.{events_are_runs}

written_then : (first rest : List SentData) → written_of (first ++ rest) ≡ written_of first ++ written_of rest
written_then first rest =
    ap lines_for (map-append (λ (line : SentData). line.text) first rest)
    ∙ lines_both (map (λ (line : SentData). line.text) first) (map (λ (line : SentData). line.text) rest)

reply_line : (client : ℤ) (shuts : Bool) (reply : Option (List ℕ)) → written_of (sent_for client shuts reply) ≡ line_for reply
reply_line client shuts None = refl
reply_line client shuts (Some text) = append-nil (text ++ codes "\n")

list_texts : (client : ℤ) (lists : List (List ℕ)) → map (λ (line : SentData). line.text) (map (sent_list client) lists) ≡ lists
list_texts client [] = refl
list_texts client (text ∷ lists) = ap (λ l. text ∷ l) (list_texts client lists)

-- a session writes the lines that the world sends
sent_written : (client : ℤ) (out : OutData) → written_of (sent_to client out) ≡ written_for out
sent_written client out =
    written_then (sent_for client out.shuts out.reply) (map (sent_list client) out.lists)
    ∙ ap (λ l. l ++ written_of (map (sent_list client) out.lists)) (reply_line client out.shuts out.reply)
    ∙ ap (λ l. line_for out.reply ++ lines_for l) (list_texts client out.lists)

-- one more event before the others
module _ (basis : Basis) (client : ℤ) (before next after : PlaceData) (event : Event) (later : List Event) (out : OutData) (written rest : List ℕ)
    (world : WorldData) (goes : out.goes_on ≡ true) (is : written ≡ written_for out ++ rest) (Blind : Type 0) where
  -- its run and that of the others are one
  joined : (between : WorldData) (happenings : List HappeningData) → HappensFor basis client event happenings
      → Runs world happenings (sent_to client out) between → Blind ⊎ IsRunOf basis client between later rest true after
      → (WasBlind basis before event out next ⊎ Blind) ⊎ IsRunOf basis client world (event ∷ later) written true after
  joined between happenings happens runs (inl blind) = inl (inr blind)
  joined between happenings happens runs (inr (more, sent, last, in_turn, runs_on, wrote, shown)) = inr (
    happenings ++ more,
    sent_to client out ++ sent,
    last,
    (happenings, more, happens, refl, in_turn),
    runs_go_on world between last happenings more (sent_to client out) sent runs runs_on,
    is ∙ ap (λ l. l ++ rest) (sym (sent_written client out)) ∙ ap (λ l. written_of (sent_to client out) ++ l) wrote
        ∙ sym (written_then (sent_to client out) sent),
    shown,
  )

  one_more : HasGone event out ⊎ WasBlind basis before event out next ⊎ IsRunFor basis client world event out next
      → ((between : WorldData) → ShowsWorld basis.run client true next between → Blind ⊎ IsRunOf basis client between later rest true after)
      → (WasBlind basis before event out next ⊎ Blind) ⊎ IsRunOf basis client world (event ∷ later) written true after
  one_more (inl (ask, at, shelf, asks, (plan, cursor, work, left))) others = absurd (false≢true (sym (ap (λ (o : OutData). o.goes_on) left) ∙ goes))
  one_more (inr (inl blind)) others = inl (inl blind)
  one_more (inr (inr (happenings, between, happens, runs, shown))) others =
      joined between happenings happens runs (others between (subst (λ g. ShowsWorld basis.run client g next between) goes shown))

pub going_on_is_a_run : HasOneView → (basis : Basis) → GoingOnIsARun basis
going_on_is_a_run one_view basis client before after [] written world shows (silent, same) =
    inr ([], [], world, refl, (refl, refl), silent, subst (λ p. ShowsWorld basis.run client true p world) (sym same) shows)
going_on_is_a_run one_view basis client before after (event ∷ later) written world shows (out, next, rest, serves, goes, is, current, alone) =
    one_more basis client before next after event later out written rest world goes is (WasBlindOnce basis next later rest after alone)
    (events_are_runs one_view basis client before next event out world shows serves current)
    (λ between shown. going_on_is_a_run one_view basis client next after later rest between shown alone)

-- the happenings for one more event
in_turn_then : (basis : Basis) (client : ℤ) (events : List Event) (last : Event) (happenings more : List HappeningData) → HappensInTurn basis client events happenings
    → HappensFor basis client last more → HappensInTurn basis client (events ++ last ∷ []) (happenings ++ more)
in_turn_then basis client [] last happenings more nothing happens =
    (more, [], happens, ap (λ h. h ++ more) nothing ∙ sym (append-nil more), refl)
in_turn_then basis client (event ∷ events) last happenings more (first, rest, now, is, later) happens =
    (first, rest ++ more, now, ap (λ h. h ++ more) is ∙ append_assoc first rest more, in_turn_then basis client events last rest more later happens)

-- the last event after the others
module _ (basis : Basis) (client : ℤ) (between after : PlaceData) (events : List Event) (lines : List ℕ) (last : Event) (out : OutData)
    (world mid : WorldData) (happenings : List HappeningData) (sent : List SentData) (in_turn : HappensInTurn basis client events happenings)
    (runs : Runs world happenings sent mid) (wrote : lines ≡ written_of sent) where
  -- the runs of all are one
  joined_last : HasGone last out ⊎ WasBlind basis between last out after ⊎ IsRunFor basis client mid last out after
      → HasGone last out ⊎ WasBlind basis between last out after ⊎ IsRunOf basis client world (events ++ last ∷ []) (lines ++ written_for out) out.goes_on after
  joined_last (inl left) = inl left
  joined_last (inr (inl blind)) = inr (inl blind)
  joined_last (inr (inr (more, next, happens, runs_on, shown))) = inr (inr (
    happenings ++ more,
    sent ++ sent_to client out,
    next,
    in_turn_then basis client events last happenings more in_turn happens,
    runs_go_on world mid next happenings more sent (sent_to client out) runs runs_on,
    ap (λ l. l ++ written_for out) wrote ∙ ap (λ l. written_of sent ++ l) (sym (sent_written client out))
        ∙ sym (written_then sent (sent_to client out)),
    shown,
  ))

pub served_alone_is_a_run : HasOneView → (basis : Basis) → ServedAloneIsARun basis
served_alone_is_a_run one_view basis client before between after events lines last out world shows alone serves current =
    by (going_on_is_a_run one_view basis client before between events lines world shows alone)
  where
    by : WasBlindOnce basis before events lines between alone ⊎ IsRunOf basis client world events lines true between
        → WasBlindOnce basis before events lines between alone ⊎ HasGone last out ⊎ WasBlind basis between last out after
        ⊎ IsRunOf basis client world (events ++ last ∷ []) (lines ++ written_for out) out.goes_on after
    by (inl once) = inl once
    by (inr (happenings, sent, mid, in_turn, runs, wrote, shown)) =
        inr (joined_last basis client between after events lines last out world mid happenings sent in_turn runs wrote
        (events_are_runs one_view basis client between after last out mid shown serves current))

pub alone_goes_on : (basis : Basis) → AloneGoesOn basis
alone_goes_on basis before after [] written alone = alone
alone_goes_on basis before after (event ∷ later) written (out, next, rest, serves, goes, is, current, alone) =
    (out, next, rest, serves, goes, is, alone_goes_on basis next after later rest alone)

-- ends that show what they have show a world
pub ends_show_a_world : EndsShowAWorld
ends_show_a_world run client place shelf current shown = (
  record {
    run = run_data run;
    events = (place.known).seen;
    shelf = shelf;
    follows = λ other. place.follows;
    runs = [];
    refused = None;
  },
  record {
    current = current;
    events = refl;
    shelf = shown;
    follows = refl;
    of_run = refl;
    refused = refl;
  },
)
