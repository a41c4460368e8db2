pub use Rattle.wq_stream.specs.Stream
pub use Rattle.wq_stream.specs.Inbox
pub use Rattle.wq_ask.specs.Reading
pub use Rattle.wq_crawl.specs.Need
pub use Rattle.wq_crawl.specs.Roots
pub use Rattle.wq_crawl.specs.At
pub use Rattle.wq_session.specs.Answer
pub use Rattle.wq_session.specs.Desk
pub use Rattle.wq_session.specs.Moment
pub use Rattle.wq_session.specs.Out
pub use Rattle.wq_session.specs.Round
pub use Rattle.wq_session.specs.Serving
pub use Rattle.wq_replay.specs.Playing
pub use Rattle.wq_replay.specs.Replay
pub use Rattle.wq_replay.specs.World
pub use Rattle.wq_stream.specs.Limit
pub use Rattle.wq_crawl.specs.Answer as CrawlAnswer
pub use Rattle.wq_crawl.specs.Basis
pub use Rattle.wq_crawl.specs.Crawl
pub use Rattle.wq_session.specs.At as ShelfAt
pub use Rattle.wq_session.specs.Followed
pub use Rattle.wq_session.specs.Need as SessionNeed
pub use Rattle.wq_session.specs.Prepared
pub use Rattle.wq_session.specs.Said
pub use Rattle.wq_session.specs.Shelved
pub use Rattle.wq_session.specs.Work
pub use Rattle.wq_replay.specs.Client
pub use Rattle.wq_replay.specs.Stands
