-- The refusal of a line if its root could not be crawled, opened or retired.
-- It is this server's own.
use Rattle.wq_crawl.specs.declared.fault.CrawlFault.{CrawlFault}
use Rattle.wq_crawl.specs.declared.fault.CrawlFault.TheVariants.{Tree, Pass}
use Rattle.wq_crawl.specs.declared.fault.CrawlFault.TheVariants.{TooManyRoots as TooManyShown}
use Rattle.wq_crawl.specs.declared.fault.CrawlFault.TheVariants.{TicksSpent as NoTicks}
use Rattle.wq_crawl.specs.declared.fault.CrawlFault.TheVariants.{NoMemory as NoRoom}
use Rattle.wq_patch.specs.declared.tree.TreeFault.{TreeFault}
use Rattle.wq_patch.specs.declared.tree.TreeFault.TheVariants.{Unreadable, NoHandle, GaveWay}
use Rattle.wq_patch.specs.declared.tree.TreeFault.TheVariants.{TooManyRows as TooManyListed}
use Rattle.wq_patch.specs.declared.tree.TreeFault.TheVariants.{NoMemory as NoTreeMemory}
use Rattle.wq_view.specs.declared.listing.PassFault.{PassFault}
use Rattle.wq_view.specs.declared.listing.PassFault.TheVariants.{BadName, NameTwice, OutOfRange}
use Rattle.wq_view.specs.declared.listing.PassFault.TheVariants.{TooManyRows}
use Rattle.wq_view.specs.declared.listing.PassFault.TheVariants.{NoMemory as NoPassMemory}
use Rattle.wq_ask.specs.declared.refusal.Refusal.{Refusal}
use Rattle.wq_ask.specs.declared.refusal.Refusal.TheVariants.{UnreadableRoot, TooManyFiles}
use Rattle.wq_ask.specs.declared.refusal.Refusal.TheVariants.{TooManyRoots, TicksSpent, NoMemory}

-- the refusal of a line whose root the tree did not list; that no file handle is left is told to
-- the operator alone, and no crawl for a session gives way
abbrev pub tree_refusal : TreeFault → Refusal
tree_refusal Unreadable = UnreadableRoot
tree_refusal NoHandle = UnreadableRoot
tree_refusal TooManyListed = TooManyFiles
tree_refusal GaveWay = NoMemory
tree_refusal NoTreeMemory = NoMemory

-- the refusal of a line whose root has rows that make no pass
abbrev pub pass_refusal : PassFault → Refusal
pass_refusal BadName = UnreadableRoot
pass_refusal NameTwice = UnreadableRoot
pass_refusal OutOfRange = UnreadableRoot
pass_refusal TooManyRows = TooManyFiles
pass_refusal NoPassMemory = NoMemory

-- the refusal of the line; the operator is told the reason itself
abbrev pub crawl_refusal : CrawlFault → Refusal
crawl_refusal (Tree fault) = tree_refusal fault
crawl_refusal (Pass fault) = pass_refusal fault
crawl_refusal TooManyShown = TooManyRoots
crawl_refusal NoTicks = TicksSpent
crawl_refusal NoRoom = NoMemory
