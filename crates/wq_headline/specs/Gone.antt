-- A client that went while files were listed for it.
-- It is this server's own.
use Rattle.std.specs.Prelude.{◌≡◌, Option, None}
use Rattle.wq_ask.specs.declared.ask.Ask.{Ask}
use Rattle.wq_crawl.specs.At.{AtData}
use Rattle.wq_reply.specs.Plan.{PlanData}
use Rattle.wq_session.specs.At.{ShelfNow}
use Rattle.wq_session.specs.Begun.{taken_ask}
use Rattle.wq_session.specs.Out.{OutData, gone}
use Rattle.wq_session.specs.Work.{evaluates}
use Rattle.wq_session.specs.declared.cursor.Cursor.{Cursor}

-- the work of this ask is to list files, and the client had gone then: there is no output, and its
-- session ends
abbrev pub LeavesList : Ask → Option AtData → ShelfNow → OutData → Type 0
LeavesList ask at shelf out = (plan : PlanData) × (cursor : Option Cursor)
    × ((taken_ask ask at shelf).work ≡ evaluates plan cursor) × (out ≡ gone None)
