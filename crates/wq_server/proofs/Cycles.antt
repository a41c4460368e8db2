-- Walks of several roots within a time: each root keeps to a part of a processor, and all together keep to the share.
use Rattle.std.proofs.Common.{◌≡◌, ◌∙◌, ℕ, ◌+◌, ◌*◌, ◌/◌, ◌<◌, ◌≤◌, List, [], ◌∷◌, ◌++◌, All, ◌⊎◌, inl, inr, sum_by, min, map, take, length, get_or, add-mul, mul-add, ap, mul-le-mul_left, sym, subst}
use native.Mathlib.Omega.{arith}
use Rattle.std.specs.Duration.{as_nanos}
use Rattle.std.proofs.lemmas.Bool.{cases_lt}
use Rattle.std.proofs.lemmas.List.{length-map, take_all, take_more, map-append}
use Rattle.std.proofs.lemmas.List.Elements.{All-append, All-cons, All-head, All-nil, All-tail}
use Rattle.std.proofs.lemmas.List.Sums.{sum_by-cons, sum_by_more, sum_by_push}
use Rattle.std.proofs.Math.Nat.{div-mul-le_self, lt-mul-div-succ, min-eq_left, min-eq_right, mul-le-mul_right, mul_comm, mul_assoc}
use Rattle.wq_server.specs.declared.pace.Cycle.{Cycle}
use Rattle.wq_server.specs.declared.pace.Turn.{Turn}
use Rattle.wq_server.specs.Pace.{KeepsPart, cut_to, need_at}
use Rattle.wq_server.proofs.Shares.{longer}
use Rattle.wq_server.specs.Share.{walked, walked_in, lasts, KeepsWithin, PartsMakeShare}

-- one cycle more
one_more : (part walk pause walks time : ℕ) → KeepsPart part walk pause → walks * 1000000 ≤ part * time
    → (walk + walks) * 1000000 ≤ part * ((walk + pause) + time)
one_more part walk pause walks time keeps others =
    let left : (walk + walks) * 1000000 ≡ walk * 1000000 + walks * 1000000 = add-mul walk walks 1000000 in
    let right : part * ((walk + pause) + time) ≡ part * (walk + pause) + part * time = mul-add part (walk + pause) time in
    omega (arith, keeps, others, left, right)

-- a root that keeps to its part in each cycle keeps to it in all of them
keeps_all : (part : ℕ) (cycles : List Cycle)
    → All (λ cycle. KeepsPart part (as_nanos cycle.turn.walk) (as_nanos cycle.pause)) cycles
    → sum_by (λ cycle. as_nanos cycle.turn.walk) cycles * 1000000 ≤ part * sum_by lasts cycles
keeps_all part [] _ = omega (arith)
keeps_all part (cycle ∷ cycles) keeps =
    let Keeps = (λ (it : Cycle). KeepsPart part (as_nanos it.turn.walk) (as_nanos it.pause)) in
    let one = All-head Keeps cycle cycles keeps in
    let others = All-tail Keeps cycle cycles keeps in
    subst (λ n. n * 1000000 ≤ part * sum_by lasts (cycle ∷ cycles)) (sym (sum_by-cons (λ it. as_nanos it.turn.walk) cycle cycles))
    (subst (λ n. (as_nanos cycle.turn.walk + sum_by (λ it. as_nanos it.turn.walk) cycles) * 1000000 ≤ part * n) (sym (sum_by-cons lasts cycle cycles))
    (one_more part (as_nanos cycle.turn.walk) (as_nanos cycle.pause) _ _ one (keeps_all part cycles others)))

-- a root that keeps to its part keeps to it within a longer time
within : (part walks lasting time : ℕ) → walks * 1000000 ≤ part * lasting → lasting ≤ time → walks * 1000000 ≤ part * time
within part walks lasting time keeps fits =
    let more : part * lasting ≤ part * time = mul-le-mul_left part fits in
    omega (arith, keeps, more)

-- one root more
pub one_root_more : (part walks parts others time : ℕ) → walks * 1000000 ≤ part * time → others * 1000000 ≤ parts * time
    → (walks + others) * 1000000 ≤ (part + parts) * time
one_root_more part walks parts others time one rest =
    let left : (walks + others) * 1000000 ≡ walks * 1000000 + others * 1000000 = add-mul walks others 1000000 in
    let right : (part + parts) * time ≡ part * time + parts * time = add-mul part parts time in
    omega (arith, one, rest, left, right)

pub parts_make_share : PartsMakeShare
parts_make_share time [] _ = omega (arith)
parts_make_share time (line ∷ lines) keeps =
    let one = All-head (KeepsWithin time) line lines keeps in
    let others = All-tail (KeepsWithin time) line lines keeps in
    subst (λ n. n * 1000000 ≤ sum_by (λ it. it.part) (line ∷ lines) * time) (sym (sum_by-cons walked line lines))
    (subst (λ n. (walked line + sum_by walked lines) * 1000000 ≤ n * time) (sym (sum_by-cons (λ it. it.part) line lines))
    (one_root_more line.part (walked line) (sum_by (λ it. it.part) lines) (sum_by walked lines) time
    (within line.part (walked line) (sum_by lasts line.cycles) time (keeps_all line.part line.cycles one.0) one.1)
    (parts_make_share time lines others)))

-- the whole cycles of a root within a time keep to its part of that time
pub whole_cycles : (part walk pause time : ℕ) → KeepsPart part walk pause
    → (time / (walk + pause) * walk) * 1000000 ≤ part * time
whole_cycles part walk pause time keeps =
    let count = time / (walk + pause) in
    let fit : count * (walk + pause) ≤ time = div-mul-le_self time (walk + pause) in
    let all : count * (walk * 1000000) ≤ count * (part * (walk + pause)) = mul-le-mul_left count keeps in
    let turned : count * (part * (walk + pause)) ≡ part * (count * (walk + pause)) =
    sym (mul_assoc count part (walk + pause)) ∙ ap (λ n. n * (walk + pause)) (mul_comm count part) ∙ mul_assoc part count (walk + pause) in
    let more : part * (count * (walk + pause)) ≤ part * time = mul-le-mul_left part fit in
    let same : (count * walk) * 1000000 ≡ count * (walk * 1000000) = mul_assoc count walk 1000000 in
    omega (arith, all, turned, more, same)

-- a sum over what a list is mapped to
pub sum_of_map : {X : Type 0} (g : ℕ → ℕ) (f : X → ℕ) (xs : List X) → sum_by g (map f xs) ≡ sum_by (λ x. g (f x)) xs
sum_of_map g f [] = omega (arith)
sum_of_map g f (x ∷ xs) =
    sum_by-cons g (f x) (map f xs) ∙ ap (λ n. g (f x) + n) (sum_of_map g f xs) ∙ sym (sum_by-cons (λ y. g (f y)) x xs)

-- millionths for percent
pub in_percent : (walks parts percent time : ℕ) → walks * 1000000 ≤ parts * time → parts ≤ percent * 10000
    → walks * 100 ≤ percent * time
in_percent walks parts percent time keeps few =
    let most : parts * time ≤ (percent * 10000) * time = mul-le-mul_right time few in
    let turned : (percent * 10000) * time ≡ (percent * time) * 10000 =
    mul_assoc percent 10000 time ∙ ap (λ n. percent * n) (mul_comm 10000 time) ∙ sym (mul_assoc percent time 10000) in
    omega (arith, keeps, most, turned)

-- what keeps to two parts keeps to the lesser one
cut_keeps : (one other walk pause : ℕ) → KeepsPart one walk pause → KeepsPart other walk pause → KeepsPart (min one other) walk pause
cut_keeps one other walk pause first second = by (cases_lt one other)
  where
    by : (one < other) ⊎ (other ≤ one) → KeepsPart (min one other) walk pause
    by (inl less) = subst (λ n. KeepsPart n walk pause) (sym (min-eq_left (omega (arith, less)))) first
    by (inr more) = subst (λ n. KeepsPart n walk pause) (sym (min-eq_right more)) second

-- a root that is walked at each interval keeps to what it needs
need_keeps : (interval walk : ℕ) → KeepsPart (need_at interval walk) walk interval
need_keeps interval walk = cut_keeps _ 1000000 walk interval (by (cases_lt 0 (walk + interval))) (omega (arith))
  where
    by : (0 < walk + interval) ⊎ (walk + interval ≤ 0) → KeepsPart (walk * 1000000 / (walk + interval) + 1) walk interval
    by (inl some) =
        let below : walk * 1000000 < (walk + interval) * (walk * 1000000 / (walk + interval) + 1) = lt-mul-div-succ (walk * 1000000) some in
        let turned : (walk + interval) * (walk * 1000000 / (walk + interval) + 1) ≡ (walk * 1000000 / (walk + interval) + 1) * (walk + interval) =
        mul_comm (walk + interval) (walk * 1000000 / (walk + interval) + 1) in
        omega (arith, below, turned)
    by (inr none) = let zero_walk : walk ≡ 0 = omega (arith, none) in
        subst (λ n. n * 1000000 ≤ (n * 1000000 / (n + interval) + 1) * (n + interval)) (sym zero_walk) (omega (arith))

-- what a root gets at a level, if a walk of it takes so long
abbrev pub got : ℕ → ℕ → Turn → ℕ
got interval level turn = min (need_at interval (as_nanos turn.walk)) level

-- the turns of one cycle more
pub turns_more : (cycles more : List Cycle) (turns : List Turn) (cycle : Cycle) (d : Turn) (i : ℕ) → i < length turns
    → more ≡ cycles ++ cycle ∷ [] → cycle.turn ≡ get_or turns i d → map (λ it. it.turn) cycles ≡ take i turns
    → map (λ it. it.turn) more ≡ take (i + 1) turns
turns_more cycles more turns cycle d i below is turn so_far =
    ap (map (λ it. it.turn)) is ∙ map-append (λ it. it.turn) cycles (cycle ∷ [])
    ∙ ap (λ n. n ++ cycle.turn ∷ []) so_far ∙ ap (λ n. take i turns ++ n ∷ []) turn ∙ sym (take_more turns i d below)

-- one cycle more is as the others are
pub all_more : (P : Cycle → Type 0) (cycles more : List Cycle) (cycle : Cycle) → more ≡ cycles ++ cycle ∷ []
    → P cycle → All P cycles → All P more
all_more P cycles more cycle is one so_far =
    subst (All P) (sym is) (All-append P cycles (cycle ∷ []) so_far (All-cons P cycle [] one (All-nil P)))

-- the pause of one cycle more is no shorter than the interval
pub pauses_more : (cycles more : List Cycle) (cycle : Cycle) (interval : ℕ) → more ≡ cycles ++ cycle ∷ []
    → interval ≤ as_nanos cycle.pause → All (λ it. interval ≤ as_nanos it.pause) cycles
    → All (λ it. interval ≤ as_nanos it.pause) more
pauses_more cycles more cycle interval is long so_far =
    all_more (λ (it : Cycle). interval ≤ as_nanos it.pause) cycles more cycle is long so_far

-- one cycle more keeps to what its root gets
pub share_more : (cycles more : List Cycle) (turns : List Turn) (cycle : Cycle) (d : Turn) (interval level i time : ℕ)
    → i < length turns → more ≡ cycles ++ cycle ∷ [] → cycle.turn ≡ get_or turns i d → interval ≤ as_nanos cycle.pause
    → KeepsPart level (as_nanos (get_or turns i d).walk) (as_nanos cycle.pause)
    → sum_by (walked_in time) cycles * 1000000 ≤ sum_by (got interval level) (take i turns) * time
    → sum_by (walked_in time) more * 1000000 ≤ sum_by (got interval level) (take (i + 1) turns) * time
share_more cycles more turns cycle d interval level i time below is turn long keeps_walk so_far =
    let w = as_nanos cycle.turn.walk in
    let keeps : KeepsPart level w (as_nanos cycle.pause) = subst (λ (it : Turn). KeepsPart level (as_nanos it.walk) (as_nanos cycle.pause)) (sym turn) keeps_walk in
    let at_need : KeepsPart (need_at interval w) w (as_nanos cycle.pause) =
    longer (need_at interval w) w interval (as_nanos cycle.pause) (need_keeps interval w) long in
    let cut : KeepsPart (got interval level cycle.turn) w (as_nanos cycle.pause) = cut_keeps (need_at interval w) level w (as_nanos cycle.pause) at_need keeps in
    let one : walked_in time cycle * 1000000 ≤ got interval level cycle.turn * time = whole_cycles (got interval level cycle.turn) w (as_nanos cycle.pause) time cut in
    let both : (walked_in time cycle + sum_by (walked_in time) cycles) * 1000000 ≤ (got interval level cycle.turn + sum_by (got interval level) (take i turns)) * time =
    one_root_more (got interval level cycle.turn) (walked_in time cycle) (sum_by (got interval level) (take i turns)) (sum_by (walked_in time) cycles) time one so_far in
    let left : sum_by (walked_in time) more ≡ walked_in time cycle + sum_by (walked_in time) cycles =
    ap (sum_by (walked_in time)) is ∙ sum_by_push (walked_in time) cycles cycle ∙ omega (arith) in
    let right : got interval level cycle.turn + sum_by (got interval level) (take i turns) ≡ sum_by (got interval level) (take (i + 1) turns) =
    omega (arith, ap (got interval level) turn, sum_by_more (got interval level) turns i d below) in
    subst (λ n. sum_by (walked_in time) more * 1000000 ≤ n * time) right (subst (λ n. n * 1000000 ≤ (got interval level cycle.turn + sum_by (got interval level) (take i turns)) * time) (sym left) both)

-- all cycles keep to the share
pub share_kept : (cycles : List Cycle) (turns : List Turn) (needs : List ℕ) (interval level whole percent i j time : ℕ)
    → length turns ≤ i → length turns ≤ j → needs ≡ map (λ turn. need_at interval (as_nanos turn.walk)) (take j turns)
    → cut_to level needs ≤ whole → whole ≡ percent * 10000
    → sum_by (walked_in time) cycles * 1000000 ≤ sum_by (got interval level) (take i turns) * time
    → sum_by (walked_in time) cycles * 100 ≤ percent * time
share_kept cycles turns needs interval level whole percent i j time all every are cut is keeps =
    let need = (λ (turn : Turn). need_at interval (as_nanos turn.walk)) in
    let whole_needs : needs ≡ map need turns = are ∙ ap (map need) (take_all j turns every) in
    let sum : cut_to level needs ≡ sum_by (got interval level) turns = ap (cut_to level) whole_needs ∙ sum_of_map (λ n. min n level) need turns in
    let few : sum_by (got interval level) (take i turns) ≤ percent * 10000 =
    subst (λ xs. sum_by (got interval level) xs ≤ percent * 10000) (sym (take_all i turns all)) (omega (arith, sum, cut, is)) in
    in_percent (sum_by (walked_in time) cycles) (sum_by (got interval level) (take i turns)) percent time keeps few

-- the needs of all turns
pub whole_needs : (turns : List Turn) (needs : List ℕ) (interval j : ℕ) → length turns ≤ j
    → needs ≡ map (λ turn. need_at interval (as_nanos turn.walk)) (take j turns)
    → needs ≡ map (λ turn. need_at interval (as_nanos turn.walk)) turns
whole_needs turns needs interval j every are =
    are ∙ ap (map (λ (turn : Turn). need_at interval (as_nanos turn.walk))) (take_all j turns every)

-- there is a need for each walk
pub needs_long : (turns : List Turn) (needs : List ℕ) (interval j : ℕ) → length turns ≤ j
    → needs ≡ map (λ turn. need_at interval (as_nanos turn.walk)) (take j turns) → length needs ≡ length turns
needs_long turns needs interval j every are =
    let need = (λ (turn : Turn). need_at interval (as_nanos turn.walk)) in
    ap length (are ∙ ap (map need) (take_all j turns every)) ∙ length-map turns need
