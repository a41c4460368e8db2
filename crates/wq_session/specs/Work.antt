-- The part of an answer that needs the shelf: the output at once, or the way to list files; and the
-- shelf then.
-- It is this server's own.
use Rattle.std.specs.Prelude.{◌≡◌, ℕ, List, Option, Result, Ok, Err, map}
use Rattle.std.specs.declared.alloc.Global.{Global}
use Rattle.std.specs.declared.sync.Arc.{Arc}
use Rattle.serde_json.specs.Data.{Data}
use Rattle.serde_json.specs.View.{view as data_of}
use Rattle.wq_base.specs.Fault.{or_own_fault}
use Rattle.wq_follow.specs.Followed.{subscription_data}
use Rattle.wq_follow.specs.Kept.{data_in}
use Rattle.wq_follow.specs.Subscription.{SubscriptionData}
use Rattle.wq_reply.specs.Plan.{PlanData, planned}
use Rattle.wq_session.specs.Out.{OutData}
use Rattle.wq_ask.specs.Trigger.{triggers_reply}
use Rattle.wq_session.specs.declared.cursor.Cursor.{Cursor}
use Rattle.wq_ask.specs.declared.refusal.Refusal.{Refusal}
use Rattle.wq_ask.specs.declared.refusal.Refusal.TheVariants.{NoMemory}
use Rattle.wq_session.specs.At.{ShelfNow}
use Rattle.wq_session.specs.declared.work.Rest.{Rest}
use Rattle.wq_session.specs.declared.work.Rest.TheVariants.{Says, Prints, ListsTriggers, Evaluates}
use Rattle.wq_session.specs.declared.work.Rest.TheVariants.{Begins as BeginsFollowing, Drops}
use Rattle.wq_session.specs.declared.work.Work.{Work}

-- the rest of the work of an answer
pub data WorkData : Type 0 where
  -- nothing: this is the output
  says : OutData → WorkData
  -- printing this reply
  prints : Data → WorkData
  -- listing the files of a plan; this cursor was moved for it
  evaluates : PlanData → Option Cursor → WorkData
  -- beginning a subscription, and making its first list
  begins : SubscriptionData → WorkData
  -- ending the subscription of this root and name
  drops : (root : ℕ) → (name : List ℕ) → WorkData

-- the beginning of an ask while the shelf is held
pub record BegunData : Type 0 where
  pub work : WorkData
  pub shelf : ShelfNow

-- this is the output, and the shelf stays
abbrev pub saying : OutData → ShelfNow → BegunData
saying out shelf = record { work = says out; shelf = shelf }

-- this reply is printed, and the shelf stays
abbrev pub printing : Data → ShelfNow → BegunData
printing d shelf = record { work = prints d; shelf = shelf }

-- the beginning of an ask that reads: its reply is printed, and the shelf stays
abbrev pub replying : Result Data Refusal → ShelfNow → Result BegunData Refusal
replying reply shelf = or_own_fault reply (λ d. Ok (printing d shelf))

-- the objects of triggers in their texts
abbrev pub objects_in : List (Arc (List ℕ) Global) → List Data
objects_in objects = map (λ object. data_in object.value) objects

-- the rest of the work
abbrev pub rest_data : Rest → WorkData
rest_data (Says out) = says out
rest_data (Prints reply) = prints (data_of reply.value)
rest_data (ListsTriggers objects) = prints (triggers_reply (objects_in objects.items))
rest_data (Evaluates plan cursor) = evaluates (planned plan) cursor
rest_data (BeginsFollowing s) = begins (subscription_data s)
rest_data (Drops root name) = drops root name

-- the work, beside which the object of the ask is kept to be freed
abbrev pub work_data : Work → WorkData
work_data work = rest_data work.rest

-- the result is the work that was begun, with the shelf then; or a reason to refuse it; or memory
-- ran out. In the last two cases the shelf stays
abbrev pub Begins : Result BegunData Refusal → ShelfNow → Result Rest Refusal → ShelfNow → Type 0
Begins begun shelf (Ok rest) after =
    begun ≡ Ok (record { work = rest_data rest; shelf = after })
Begins begun shelf (Err NoMemory) after = after ≡ shelf
Begins begun shelf (Err refusal) after = (begun ≡ Err refusal) × (after ≡ shelf)
