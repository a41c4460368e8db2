use Rattle.wq_registry.proofs.cache.Cache.get.Goals as goal

pub invariant_of-self : goal.invariant_of-self
invariant_of-self c = c.look_up.ensures.meanings _ c.self.invariant
