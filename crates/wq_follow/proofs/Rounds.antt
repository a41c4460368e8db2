-- A round's work for a trigger agrees with the facts that a launcher shows.
use Rattle.std.proofs.Common.{◌≡◌, ◌≢◌, ℕ, Bool, true, false, not, List, [], ◌∷◌, length, Option, Some, None, if◌then◌else◌, refl, sym, ap, subst, ◌∙◌}
use Rattle.wq_clock.specs.Instance.{InstanceData}
use Rattle.wq_view.specs.Position.{records_at}
use Rattle.wq_record.specs.RecordData.{RecordData}
use Rattle.wq_view.specs.View.{ViewData}
use Rattle.wq_follow.specs.Batch.{BatchData, FollowerData, is_told, last_or, listing, nothing, polled, told_up_to}
use Rattle.wq_follow.specs.Follower.{IsBatch, batch_at}
use Rattle.wq_follow.specs.Launcher.{AsksRun, LauncherData, Rose, StartsRun, goes_on}
use Rattle.wq_follow.specs.Round.{Agrees, CountsFailure, FailedStartsStay, FiredData, Fires, IsFree, TriggerData, WantsMemory, batch_of, is_short, stopped, runs, started, failed, short}
use Rattle.wq_follow.specs.Start.{StartData, start_of}
use Rattle.wq_follow.specs.declared.batch.Batch.{Batch}
use Rattle.wq_follow.proofs.Places.{length_at}

goes : (b : Bool) → false ≡ not b → b ≡ true
goes true e = refl
goes false e = absurd (cc e)

ends : (b : Bool) → true ≡ not b → b ≡ false
ends true e = absurd (cc e)
ends false e = refl

-- it is passed over if its command runs
pub agrees_runs : (running : Option ℕ) (before after : Option LauncherData) → AsksRun running false before after
    → (run : ℕ) × (running ≡ Some run) × Agrees (runs run) running before after
agrees_runs None before after asks = absurd (cc (asks.0))
agrees_runs (Some run) None after asks = (run, refl, asks)
agrees_runs (Some run) (Some l) after asks = (run, refl, (goes (goes_on run l) asks.0, asks.1))

-- if it does not run, the launcher shows nothing, or that it does not run
free_none : (running : Option ℕ) (after : Option LauncherData) → AsksRun running true None after → after ≡ None
free_none None after asks = asks.1
free_none (Some run) after asks = asks

free_some : (running : Option ℕ) (l : LauncherData) (after : Option LauncherData) → AsksRun running true (Some l) after
    → IsFree running l × (after ≡ Some l)
free_some None l after asks = (tt, asks.1)
free_some (Some run) l after asks = (ends (goes_on run l) asks.0, asks.1)

pub agrees_short : (running : Option ℕ) (before after : Option LauncherData) → AsksRun running true before after
    → Agrees short running before after
agrees_short running None after asks = free_none running after asks
agrees_short running (Some l) after asks = free_some running l after asks

pub agrees_started : (running : Option ℕ) (run : ℕ) (start : StartData) (before mid after : Option LauncherData)
    → AsksRun running true before mid → StartsRun mid start (Some run) after
    → Agrees (started run start) running before after
agrees_started running run start None mid after asks starts =
    subst (λ m. StartsRun m start (Some run) after) (free_none running mid asks) starts
agrees_started running run start (Some l) mid after asks starts =
    let is = free_some running l mid asks in
    (is.0, subst (λ m. StartsRun m start (Some run) after) is.1 starts)

pub agrees_failed : (running : Option ℕ) (start : StartData) (before mid after : Option LauncherData)
    → AsksRun running true before mid → StartsRun mid start None after
    → Agrees (failed start) running before after
agrees_failed running start None mid after asks starts =
    subst (λ m. StartsRun m start None after) (free_none running mid asks) starts
agrees_failed running start (Some l) mid after asks starts =
    let is = free_some running l mid asks in
    (is.0, subst (λ m. StartsRun m start None after) is.1 starts)

-- a batch without places has no files, and one with places has some
pub no_files : (records : List RecordData) (said : BatchData) (batch : Batch) → IsBatch records said batch
    → length batch.files.items ≡ 0 → said.files ≡ []
no_files records said batch is none =
    ap (λ b. b.files) (sym is.0) ∙ at batch.files.items none
  where
    at : (places : List ℕ) → length places ≡ 0 → records_at records places ≡ []
    at [] e = refl
    at (place ∷ places) e = absurd (cc e)

pub some_files : (records : List RecordData) (said : BatchData) (batch : Batch) → IsBatch records said batch
    → length batch.files.items ≢ 0 → said.files ≢ []
some_files records said batch is some none =
    some (sym (length_at records batch.files.items is.1) ∙ ap length (ap (λ b. b.files) is.0 ∙ none))

-- a round had an effect on a trigger that is then so, and agrees with the facts that are shown and with the count of failures
abbrev pub Does : InstanceData → ViewData → TriggerData → TriggerData → Option LauncherData → Option LauncherData → Bool → ℕ → ℕ → Type 0
Does instance view t after before shown errs count counted = (fired : FiredData) × Fires instance view t fired after
    × Agrees fired t.running before shown × (is_short fired ≡ errs) × CountsFailure fired count counted

-- its follower, once the batch was told
followed : (view : ViewData) (t : TriggerData) (batch : Batch) (next : FollowerData) → IsBatch view.records (batch_of t view) batch
    → next ≡ told_up_to batch.now t.follower → next ≡ told_up_to (batch_of t view).now t.follower
followed view t batch next is moves = moves ∙ ap (λ (b : BatchData). told_up_to b.now t.follower) is.0

pub does_runs : (instance : InstanceData) (view : ViewData) (t : TriggerData) (before shown : Option LauncherData) (count counted : ℕ)
    → AsksRun t.running false before shown → counted ≡ count → Does instance view t t before shown false count counted
does_runs instance view t before shown count counted asks stays =
    let is = agrees_runs t.running before shown asks in
    (runs is.0, (is.1, refl), is.2, refl, stays)

pub does_short : (instance : InstanceData) (view : ViewData) (t : TriggerData) (before shown : Option LauncherData) (count counted : ℕ)
    → AsksRun t.running true before shown → counted ≡ count → WantsMemory view t
    → Does instance view t (stopped t) before shown true count counted
does_short instance view t before shown count counted asks stays wants = (short, (wants, refl), agrees_short t.running before shown asks, refl, stays)

-- a follower with files to tell is polled at a newer view
pub wants_memory : (f : FollowerData) (view : ViewData) → (polled f view).files ≢ [] → is_told f.last view.tick ≡ false
wants_memory f view some = at (is_told f.last view.tick) refl
  where
    at : (b : Bool) → is_told f.last view.tick ≡ b → is_told f.last view.tick ≡ false
    at false e = e
    at true e = absurd (some (ap (λ b. (if b then nothing f.plan (last_or view.tick f.last) else listing f.plan view).files) e))

-- memory ran out for its start
pub does_short_start : (instance : InstanceData) (view : ViewData) (t : TriggerData) (batch : Batch) (before shown : Option LauncherData) (count counted : ℕ)
    → AsksRun t.running true before shown → counted ≡ count → IsBatch view.records (batch_of t view) batch → length batch.files.items ≢ 0
    → Does instance view t (stopped t) before shown true count counted
does_short_start instance view t batch before shown count counted asks stays is some =
    does_short instance view t before shown count counted asks stays (wants_memory t.follower view (some_files view.records (batch_of t view) batch is some))

pub does_started : (instance : InstanceData) (view : ViewData) (t : TriggerData) (batch : Batch) (next : FollowerData) (start : StartData) (run : ℕ) (before mid shown : Option LauncherData) (count counted : ℕ)
    → AsksRun t.running true before mid → counted ≡ count → IsBatch view.records (batch_of t view) batch → length batch.files.items ≢ 0
    → start ≡ start_of t.order instance (batch_at view.records batch) → StartsRun mid start (Some run) shown
    → next ≡ told_up_to batch.now t.follower
    → Does instance view t (record { order = t.order; follower = next; object = t.object; running = Some run }) before shown false count counted
does_started instance view t batch next start run before mid shown count counted asks stays is some made starts moves = (
  started run start,
  (
    (some_files view.records (batch_of t view) batch is some, made ∙ ap (start_of t.order instance) is.0),
    ap (λ f. record { order = t.order; follower = f; object = t.object; running = Some run }) (followed view t batch next is moves),
  ),
  agrees_started t.running run start before mid shown asks starts,
  refl,
  stays,
)

pub does_failed : (instance : InstanceData) (view : ViewData) (t : TriggerData) (batch : Batch) (start : StartData) (before mid shown : Option LauncherData) (count counted : ℕ)
    → AsksRun t.running true before mid → Rose count counted → IsBatch view.records (batch_of t view) batch → length batch.files.items ≢ 0
    → start ≡ start_of t.order instance (batch_at view.records batch) → StartsRun mid start None shown
    → Does instance view t (stopped t) before shown false count counted
does_failed instance view t batch start before mid shown count counted asks rose is some made starts = (
  failed start,
  (
    (some_files view.records (batch_of t view) batch is some, made ∙ ap (start_of t.order instance) is.0),
    refl,
  ),
  agrees_failed t.running start before mid shown asks starts,
  refl,
  rose,
)

-- a start that failed leaves the follower
pub failed_starts_stay : FailedStartsStay
failed_starts_stay instance view t start after does later = ap (λ (x : TriggerData). batch_of x later) does.1
