-- The root that is looked at for an answer.
-- It is this server's own.
use Rattle.std.specs.Prelude.{Option, option_map}
use Rattle.wq_clock.specs.Instance.{InstanceData, instance_data}
use Rattle.wq_view.specs.View.{ViewData}
use Rattle.wq_crawl.specs.declared.at.At.{At}

-- a root that is looked at: its instance and its view, unless it has ended
pub record AtData : Type 0 where
  pub instance : InstanceData
  pub view : Option ViewData

-- the meaning of the code's root that is looked at
abbrev pub at_data : At → AtData
at_data at = record {
  instance = instance_data at.instance;
  view = option_map (λ view. view.now) at.view;
}
