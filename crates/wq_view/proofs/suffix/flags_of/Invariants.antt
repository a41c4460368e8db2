-- the flags so far
use Rattle.std.proofs.Common.{◌≡◌, ◌<◌, ℕ, true, false, get_or, length}
use Rattle.wq_view.specs.Sought.{sought_texts}
use Rattle.wq_view.specs.Suffix.{first_places, folded_suffixes, is_folded_of, max_numbered, suffix_at}
use Rattle.wq_view.proofs.suffix.flags_of.Given as goal

abbrev pub invariant-loop-number : goal.invariant-loop-number
invariant-loop-number l = record {
  each : (k : ℕ) → k < l.number → get_or l.flags k false ≡ is_folded_of (sought_texts l.sought) (suffix_at (folded_suffixes l.records) (first_places l.firsts) k);
  all : length l.flags ≡ 256;
  last : get_or l.flags max_numbered false ≡ true;
}
