-- The work of a round for a trigger. From Watchman's documentation of `trigger`; that a failed
-- start tells nothing is this server's own.
use Rattle.std.specs.Prelude.{◌≡◌, ◌≢◌, ℕ, Bool, true, false, [], Option, Some, None}
use Rattle.serde_json.specs.Data.{Data}
use Rattle.wq_clock.specs.Instance.{InstanceData}
use Rattle.wq_view.specs.View.{ViewData}
use Rattle.wq_follow.specs.Batch.{BatchData, FollowerData, is_told, polled, told_up_to}
use Rattle.wq_follow.specs.Launcher.{LauncherData, Rose, StartsRun, goes_on}
use Rattle.wq_follow.specs.Start.{OrderData, StartData, start_of}

-- a trigger: how it starts its command, its follower, the object that defines it, and the run of
-- its command, if that runs
pub record TriggerData : Type 0 where
  pub order : OrderData
  pub follower : FollowerData
  pub object : Data
  pub running : Option ℕ

-- the effect of a round on a trigger
pub data FiredData : Type 0 where
  -- nothing, since its command runs
  runs : (run : ℕ) → FiredData
  -- no file of it changed
  quiet : FiredData
  -- its command is started
  started : (run : ℕ) → StartData → FiredData
  -- its command could not be started
  failed : StartData → FiredData
  -- nothing, since memory ran out
  short : FiredData

-- the batch of a trigger at a view
abbrev pub batch_of : TriggerData → ViewData → BatchData
batch_of t view = polled t.follower view

-- the trigger with this run of its command, once its batch was told
abbrev pub moved : Option ℕ → ViewData → TriggerData → TriggerData
moved running view t = record {
  order = t.order;
  follower = told_up_to (batch_of t view).now t.follower;
  object = t.object;
  running = running;
}

-- the trigger, once a batch that ends at this tick was told
abbrev pub told_to : ℕ → TriggerData → TriggerData
told_to tick t = record {
  order = t.order;
  follower = told_up_to tick t.follower;
  object = t.object;
  running = t.running;
}

-- the trigger when its command does not run
abbrev pub stopped : TriggerData → TriggerData
stopped t =
    record { order = t.order; follower = t.follower; object = t.object; running = None }

-- a start of its command tells the files of its batch, and there is at least one
abbrev pub IsStartFor : InstanceData → ViewData → TriggerData → StartData → Type 0
IsStartFor instance view t start =
    ((batch_of t view).files ≢ []) × (start ≡ start_of t.order instance (batch_of t view))

-- a poll of it needs memory: the view is newer than the last batch
abbrev pub WantsMemory : ViewData → TriggerData → Type 0
WantsMemory view t = is_told (t.follower).last view.tick ≡ false

-- a round did this for a trigger, which is then so
abbrev pub Fires : InstanceData → ViewData → TriggerData → FiredData → TriggerData → Type 0
Fires instance view t (runs run) after = (t.running ≡ Some run) × (after ≡ t)
Fires instance view t quiet after =
    ((batch_of t view).files ≡ []) × (after ≡ moved None view t)
Fires instance view t (started run start) after =
    IsStartFor instance view t start × (after ≡ moved (Some run) view t)
Fires instance view t (failed start) after = IsStartFor instance view t start × (after ≡ stopped t)
Fires instance view t short after = WantsMemory view t × (after ≡ stopped t)

-- whether memory ran out for it
abbrev pub is_short : FiredData → Bool
is_short short = true
is_short _ = false

-- a launcher tells that the command of a trigger does not run
abbrev pub IsFree : Option ℕ → LauncherData → Type 0
IsFree None l = Unit {0}
IsFree (Some run) l = goes_on run l ≡ false

-- this agrees with a launcher that shows its answers. The round passes over a trigger only if its
-- command runs, and does anything else only if it does not. Each start has its answer
abbrev pub AgreesWith : FiredData → Option ℕ → LauncherData → Option LauncherData → Type 0
AgreesWith (runs run) running l after = (goes_on run l ≡ true) × (after ≡ Some l)
AgreesWith (started run start) running l after =
    IsFree running l × StartsRun (Some l) start (Some run) after
AgreesWith (failed start) running l after = IsFree running l × StartsRun (Some l) start None after
AgreesWith _ running l after = IsFree running l × (after ≡ Some l)

-- the same for a launcher that may show nothing
abbrev pub Agrees : FiredData → Option ℕ → Option LauncherData → Option LauncherData → Type 0
Agrees fired running None after = after ≡ None
Agrees fired running (Some l) after = AgreesWith fired running l after

-- the count of a launcher's failures before and after this: it rose if the start failed, and else
-- it stayed
abbrev pub CountsFailure : FiredData → ℕ → ℕ → Type 0
CountsFailure (failed start) before after = Rose before after
CountsFailure _ before after = after ≡ before

-- after a start that failed, each later batch of the trigger is the one that it would have been
-- before
abbrev pub FailedStartsStay : Type 0
FailedStartsStay = (instance : InstanceData) (view : ViewData) (t : TriggerData) (start : StartData)
    (after : TriggerData) → Fires instance view t (failed start) after
    → (later : ViewData) → batch_of after later ≡ batch_of t later
