-- From a state that fits a typing, one step goes well.
use Rattle.std.proofs.Common.{◌≡◌, ℕ, zero, suc, ◌+◌, ◌*◌, ◌<◌, ◌≤◌, Bool, true, false, not, cond, ltb, eqb, ◌&&◌, ◌||◌, List, [], ◌∷◌, length, take, Option, Some, None, refl, sym, ap, subst, ◌∙◌, arith}
use Rattle.std.specs.Prelude.{ℤ, pos, slice_get, sum_by}
use Rattle.std.specs.List.{list_any, after_last}
use Rattle.std.specs.Option.{option_map_or}
use Rattle.std.proofs.lemmas.Bool.{eq-eqb, ltb-true, or_right}
use Rattle.std.proofs.lemmas.List.{length-drop}
use Rattle.std.proofs.lemmas.List.Sums.{sum_by-cons, sum_by-take-le}
use Rattle.std.proofs.Math.Nat.{mul-le-mul_left}
use Rattle.std.proofs.lemmas.Option.{same_Some}
use mathlib.Core.Bool.{beq}
use Rattle.wq_glob.specs.Pattern.{PatternData, atoms_of, fits}
use Rattle.wq_code.specs.Item.{Item}
use Rattle.wq_base.specs.Name.{basename_of, suffix_of, seconds_of}
use Rattle.wq_base.specs.Byte.{is_dot}
use Rattle.wq_base.specs.Compare.{compares, same_text}
use Rattle.wq_code.specs.Name.{depth_of}
use Rattle.wq_code.specs.Flow.{flow}
use Rattle.wq_code.specs.Signature.{signature}
use Rattle.wq_code.specs.Constant.{constant, has_constant}
use Rattle.wq_code.specs.Machine.{Cell, flag, number, text, Running, cells_after, place_after, pattern_cost, charge, answer_of, go_on, step}
use Rattle.wq_code.specs.declared.flow.Flow.{Flow}
use Rattle.wq_code.specs.declared.flow.Flow.TheVariants.{Next, To, Fork, Stop}
use Rattle.wq_code.specs.declared.operation.CellKind.TheVariants as cell
use Rattle.wq_code.specs.declared.operation.Op.{Op}
use Rattle.wq_code.specs.declared.operation.Op.TheVariants.{Flag, Number, Text, WholeName, BaseName, Suffix, Size, Mtime, Oclock, Cclock, Osec, Csec, Kind, Exists, Compare, Equal, Depth, OneOf, Match, AnyMatch, Not, And, Or, Drop, Jump, JumpIfNot, JumpIf, Return}
use Rattle.wq_code.specs.declared.signature.CellNeed.{CellNeed}
use Rattle.wq_code.specs.declared.signature.CellNeed.TheVariants as need
use Rattle.wq_code.specs.declared.raw.Raw.{Raw}
use Rattle.wq_verify.specs.Kinds.{Kinds, KnownKinds, all_meet, kinds_after, leads}
use Rattle.wq_verify.specs.Fault.{stops}
use Rattle.wq_verify.specs.Typing.{IsWell}
use Rattle.wq_verify.specs.Budget.{longest_len, most_cost}
use Rattle.wq_verify.specs.Law.{StepsGoWell, RunsBeginWell}
use Rattle.wq_verify.proofs.Tests.{stops-Return, stops-true}
use Rattle.wq_verify.specs.Run.{kinds_in, AreNarrow, HasWidth, IsFit, GoesWell}

-- ---- operands

-- the stack has these kinds in front
abbrev Meets : List CellNeed → List Cell → Type 0
Meets needs cells = (length needs ≤ length (kinds_in cells)) × (all_meet needs (kinds_in cells) ≡ true)

abbrev HasFlag : List Cell → Type 0
HasFlag cells = (x : Bool) × (rest : List Cell) × (cells ≡ flag x ∷ rest)

abbrev HasNumber : List Cell → Type 0
HasNumber cells = (x : ℤ) × (rest : List Cell) × (cells ≡ number x ∷ rest)

abbrev HasText : List Cell → Type 0
HasText cells = (x : List ℕ) × (rest : List Cell) × (cells ≡ text x ∷ rest)

abbrev flag_need : CellNeed
flag_need = need.Cell cell.Flag

abbrev number_need : CellNeed
number_need = need.Cell cell.Number

abbrev text_need : CellNeed
text_need = need.Cell cell.Text

one_flag : (needs : List CellNeed) (cells : List Cell) → Meets (flag_need ∷ needs) cells → HasFlag cells
one_flag needs [] h = absurd (omega (arith, h.0))
one_flag needs (flag x ∷ rest) h = (x, rest, refl)
one_flag needs (number x ∷ rest) h = absurd (let e = h.1 in cc)
one_flag needs (text x ∷ rest) h = absurd (let e = h.1 in cc)

one_number : (needs : List CellNeed) (cells : List Cell) → Meets (number_need ∷ needs) cells → HasNumber cells
one_number needs [] h = absurd (omega (arith, h.0))
one_number needs (flag x ∷ rest) h = absurd (let e = h.1 in cc)
one_number needs (number x ∷ rest) h = (x, rest, refl)
one_number needs (text x ∷ rest) h = absurd (let e = h.1 in cc)

one_text : (needs : List CellNeed) (cells : List Cell) → Meets (text_need ∷ needs) cells → HasText cells
one_text needs [] h = absurd (omega (arith, h.0))
one_text needs (flag x ∷ rest) h = absurd (let e = h.1 in cc)
one_text needs (number x ∷ rest) h = absurd (let e = h.1 in cc)
one_text needs (text x ∷ rest) h = (x, rest, refl)

-- ---- texts

longest_len_at : (texts : List (List ℕ)) (place : ℕ) (x : List ℕ) → slice_get texts place ≡ Some x → length x ≤ longest_len texts
longest_len_at [] place x e = absurd cc
longest_len_at (t ∷ texts) zero x e =
    let same : t ≡ x = cc in rw (← same) (omega arith)
longest_len_at (t ∷ texts) (suc place) x e = omega (arith, longest_len_at texts place x e)

there_below : {A : Type 0} (xs : List A) (place : ℕ) → place < length xs → (x : A) × (slice_get xs place ≡ Some x)
there_below [] place lt = absurd (omega arith)
there_below (x ∷ xs) zero lt = (x, refl)
there_below (x ∷ xs) (suc place) lt = there_below xs place (omega arith)

there : {A : Type 0} (xs : List A) (place : ℕ) → ltb place (length xs) ≡ true → (x : A) × (slice_get xs place ≡ Some x)
there xs place lt = there_below xs place (ltb-true place (length xs) lt)

basename_low : (name : List ℕ) → length (basename_of name) ≤ length name
basename_low name = omega (arith, length-drop {A = ℕ})

suffix_low : (name : List ℕ) → length (suffix_of name) ≤ length name
suffix_low name = by (list_any is_dot (basename_of name))
  where
    by : (b : Bool) → length (cond b (after_last is_dot (basename_of name)) []) ≤ length name
    by true = omega (arith, basename_low name, length-drop {A = ℕ})
    by false = omega arith

-- ---- the cells that an instruction leaves

-- the cells after an instruction are there, of the kinds that are known, and none is too wide
record Leaves (raw : Raw) (item : Item) (width : ℕ) (op : Op) (cells : List Cell) : Type 0 where
  after : List Cell
  is : cells_after raw item op cells ≡ Some after
  kinds : kinds_in after ≡ kinds_after op (kinds_in cells)
  narrow : AreNarrow width after

-- the stack is of this form, and then what holds of it
formed : (raw : Raw) (item : Item) (width : ℕ) (op : Op) (cells form : List Cell) → cells ≡ form → AreNarrow width cells
    → (AreNarrow width form → Leaves raw item width op form) → Leaves raw item width op cells
formed raw item width op cells form is narrow holds =
    subst (λ (c : List Cell). Leaves raw item width op c) (sym is) (holds (subst (AreNarrow width) is narrow))

two_flags : (cells : List Cell) → Meets (flag_need ∷ flag_need ∷ []) cells
    → (y : Bool) × (x : Bool) × (rest : List Cell) × (cells ≡ flag y ∷ flag x ∷ rest)
two_flags [] h = absurd (omega (arith, h.0))
two_flags (flag y ∷ cells) h =
    let b = one_flag [] cells (omega (arith, h.0), h.1) in
    (y, b.0, b.1, ap (λ (c : List Cell). flag y ∷ c) b.2)
two_flags (number x ∷ rest) h = absurd (let e = h.1 in cc)
two_flags (text x ∷ rest) h = absurd (let e = h.1 in cc)

two_numbers : (cells : List Cell) → Meets (number_need ∷ number_need ∷ []) cells
    → (y : ℤ) × (x : ℤ) × (rest : List Cell) × (cells ≡ number y ∷ number x ∷ rest)
two_numbers [] h = absurd (omega (arith, h.0))
two_numbers (flag x ∷ rest) h = absurd (let e = h.1 in cc)
two_numbers (number y ∷ cells) h =
    let b = one_number [] cells (omega (arith, h.0), h.1) in
    (y, b.0, b.1, ap (λ (c : List Cell). number y ∷ c) b.2)
two_numbers (text x ∷ rest) h = absurd (let e = h.1 in cc)

two_texts : (cells : List Cell) → Meets (text_need ∷ text_need ∷ []) cells
    → (y : List ℕ) × (x : List ℕ) × (rest : List Cell) × (cells ≡ text y ∷ text x ∷ rest)
two_texts [] h = absurd (omega (arith, h.0))
two_texts (flag x ∷ rest) h = absurd (let e = h.1 in cc)
two_texts (number x ∷ rest) h = absurd (let e = h.1 in cc)
two_texts (text y ∷ cells) h =
    let b = one_text [] cells (omega (arith, h.0), h.1) in
    (y, b.0, b.1, ap (λ (c : List Cell). text y ∷ c) b.2)

any_one : (cells : List Cell) → 1 ≤ length (kinds_in cells) → (x : Cell) × (rest : List Cell) × (cells ≡ x ∷ rest)
any_one [] h = absurd (omega arith)
any_one (x ∷ rest) h = (x, rest, refl)

leaves : (raw : Raw) (item : Item) (width : ℕ) (op : Op) (cells : List Cell) → stops (flow op) ≡ false → HasWidth raw item width
    → Meets (signature op).needs cells → has_constant raw (constant op) ≡ true → AreNarrow width cells
    → Leaves raw item width op cells
unfolding cells_after
leaves raw item width (Flag x) cells s w m k n = record { after = flag x ∷ cells; is = refl; kinds = refl; narrow = (tt, n) }
leaves raw item width (Number place) cells s w m k n =
    let c = there raw.nums place k in record { after = number c.0 ∷ cells; is = rw c.1 refl; kinds = refl; narrow = (tt, n) }
leaves raw item width (Text place) cells s w m k n =
    let c = there raw.texts place k in
    record { after = text c.0 ∷ cells; is = rw c.1 refl; kinds = refl; narrow = (omega (arith, longest_len_at raw.texts place c.0 c.1, w.texts), n) }
leaves raw item width WholeName cells s w m k n = record { after = text item.name ∷ cells; is = refl; kinds = refl; narrow = (w.name, n) }
leaves raw item width BaseName cells s w m k n =
    record { after = text (basename_of item.name) ∷ cells; is = refl; kinds = refl; narrow = (omega (arith, basename_low item.name, w.name), n) }
leaves raw item width Suffix cells s w m k n =
    record { after = text (suffix_of item.name) ∷ cells; is = refl; kinds = refl; narrow = (omega (arith, suffix_low item.name, w.name), n) }
leaves raw item width Size cells s w m k n = record { after = number item.size ∷ cells; is = refl; kinds = refl; narrow = (tt, n) }
leaves raw item width Mtime cells s w m k n = record { after = number (seconds_of item.mtime_ms) ∷ cells; is = refl; kinds = refl; narrow = (tt, n) }
leaves raw item width Oclock cells s w m k n = record { after = number (pos item.otick) ∷ cells; is = refl; kinds = refl; narrow = (tt, n) }
leaves raw item width Cclock cells s w m k n = record { after = number (pos item.ctick) ∷ cells; is = refl; kinds = refl; narrow = (tt, n) }
leaves raw item width Osec cells s w m k n = record { after = number item.osec ∷ cells; is = refl; kinds = refl; narrow = (tt, n) }
leaves raw item width Csec cells s w m k n = record { after = number item.csec ∷ cells; is = refl; kinds = refl; narrow = (tt, n) }
leaves raw item width Kind cells s w m k n = record { after = number (pos item.letter) ∷ cells; is = refl; kinds = refl; narrow = (tt, n) }
leaves raw item width Exists cells s w m k n = record { after = flag item.exists ∷ cells; is = refl; kinds = refl; narrow = (tt, n) }
leaves raw item width (Compare relation) cells s w m k n =
    let t = two_numbers cells m in
    formed raw item width (Compare relation) cells (number t.0 ∷ number t.1 ∷ t.2) t.3 n (λ n.
    record { after = flag (compares relation t.1 t.0) ∷ t.2; is = refl; kinds = refl; narrow = (tt, n.1.1) })
leaves raw item width (Equal case) cells s w m k n =
    let t = two_texts cells m in
    formed raw item width (Equal case) cells (text t.0 ∷ text t.1 ∷ t.2) t.3 n (λ n.
    record { after = flag (same_text case t.1 t.0) ∷ t.2; is = refl; kinds = refl; narrow = (tt, n.1.1) })
leaves raw item width (Depth case) cells s w m k n =
    let t = two_texts cells m in
    formed raw item width (Depth case) cells (text t.0 ∷ text t.1 ∷ t.2) t.3 n (λ n.
    record { after = number (depth_of case t.0 t.1) ∷ t.2; is = refl; kinds = refl; narrow = (tt, n.1.1) })
leaves raw item width (OneOf case place) cells s w m k n =
    let c = there raw.lists place k in
    let t = one_text [] cells m in
    formed raw item width (OneOf case place) cells (text t.0 ∷ t.1) t.2 n (λ n.
    record { after = flag (list_any (λ entry. same_text case entry t.0) c.0) ∷ t.1; is = rw c.1 refl; kinds = refl; narrow = (tt, n.1) })
leaves raw item width (Match place) cells s w m k n =
    let c = there raw.patterns place k in
    let t = one_text [] cells m in
    formed raw item width (Match place) cells (text t.0 ∷ t.1) t.2 n (λ n.
    record { after = flag (fits c.0 t.0) ∷ t.1; is = rw c.1 refl; kinds = refl; narrow = (tt, n.1) })
leaves raw item width (AnyMatch place) cells s w m k n =
    let c = there raw.sets place k in
    let t = one_text [] cells m in
    formed raw item width (AnyMatch place) cells (text t.0 ∷ t.1) t.2 n (λ n.
    record { after = flag (list_any (λ p. fits p t.0) c.0) ∷ t.1; is = rw c.1 refl; kinds = refl; narrow = (tt, n.1) })
leaves raw item width Not cells s w m k n =
    let t = one_flag [] cells m in
    formed raw item width Not cells (flag t.0 ∷ t.1) t.2 n (λ n.
    record { after = flag (not t.0) ∷ t.1; is = refl; kinds = refl; narrow = (tt, n.1) })
leaves raw item width And cells s w m k n =
    let t = two_flags cells m in
    formed raw item width And cells (flag t.0 ∷ flag t.1 ∷ t.2) t.3 n (λ n.
    record { after = flag (t.1 && t.0) ∷ t.2; is = refl; kinds = refl; narrow = (tt, n.1.1) })
leaves raw item width Or cells s w m k n =
    let t = two_flags cells m in
    formed raw item width Or cells (flag t.0 ∷ flag t.1 ∷ t.2) t.3 n (λ n.
    record { after = flag (t.1 || t.0) ∷ t.2; is = refl; kinds = refl; narrow = (tt, n.1.1) })
leaves raw item width Drop cells s w m k n =
    let t = any_one cells m.0 in
    formed raw item width Drop cells (t.0 ∷ t.1) t.2 n (λ n. record { after = t.1; is = refl; kinds = refl; narrow = n.1 })
leaves raw item width (Jump place) cells s w m k n = record { after = cells; is = refl; kinds = refl; narrow = n }
leaves raw item width (JumpIfNot place) cells s w m k n =
    let t = one_flag [] cells m in
    formed raw item width (JumpIfNot place) cells (flag t.0 ∷ t.1) t.2 n (λ n.
    record { after = flag t.0 ∷ t.1; is = refl; kinds = refl; narrow = n })
leaves raw item width (JumpIf place) cells s w m k n =
    let t = one_flag [] cells m in
    formed raw item width (JumpIf place) cells (flag t.0 ∷ t.1) t.2 n (λ n.
    record { after = flag t.0 ∷ t.1; is = refl; kinds = refl; narrow = n })
leaves raw item width Return cells s w m k n = absurd cc

-- ---- charges

pattern_paid : (width : ℕ) (p : PatternData) (cells : List Cell) → AreNarrow width cells
    → pattern_cost p cells ≤ (length (atoms_of p) + 1) * (width + 1)
pattern_paid width p [] n = omega arith
pattern_paid width p (flag x ∷ cells) n = omega arith
pattern_paid width p (number x ∷ cells) n = omega arith
pattern_paid width p (text x ∷ cells) n =
    mul-le-mul_left (length (atoms_of p) + 1) (omega (arith, n.0))

patterns_paid : (width : ℕ) (cells : List Cell) → AreNarrow width cells → (set : List PatternData)
    → sum_by (λ p. pattern_cost p cells) set ≤ sum_by (Rattle.wq_verify.specs.Budget.most_pattern_cost width) set
patterns_paid width cells n [] = omega arith
patterns_paid width cells n (p ∷ set) =
    omega (
      arith,
      sum_by-cons (λ p. pattern_cost p cells) p set,
      sum_by-cons (Rattle.wq_verify.specs.Budget.most_pattern_cost width) p set,
      pattern_paid width p cells n,
      patterns_paid width cells n set,
    )

-- an instruction is charged at most its cost
charged : (raw : Raw) (width : ℕ) (op : Op) (cells : List Cell) → AreNarrow width cells → charge raw op cells ≤ most_cost raw width op
charged raw width (Match place) cells n = by (slice_get raw.patterns place)
  where
    by : (o : Option PatternData) → 1 + option_map_or (λ p. pattern_cost p cells) o 0 ≤ 1 + option_map_or (Rattle.wq_verify.specs.Budget.most_pattern_cost width) o 0
    by None = omega arith
    by (Some p) = omega (arith, pattern_paid width p cells n)
charged raw width (AnyMatch place) cells n = by (slice_get raw.sets place)
  where
    by : (o : Option (List PatternData)) → 1 + option_map_or (λ set. sum_by (λ p. pattern_cost p cells) set) o 0 ≤ 1 + option_map_or (sum_by (Rattle.wq_verify.specs.Budget.most_pattern_cost width)) o 0
    by None = omega arith
    by (Some set) = omega (arith, patterns_paid width cells n set)
charged raw width (OneOf case place) cells n = omega arith
charged raw width op cells n = omega arith

-- the costs before a later place
sum_more_at : (f : Op → ℕ) (code : List Op) (place : ℕ) (op : Op) → slice_get code place ≡ Some op
    → sum_by f (take (place + 1) code) ≡ sum_by f (take place code) + f op
sum_more_at f [] place op e = absurd cc
sum_more_at f (o ∷ code) zero op e = ap (λ n. 0 + n) (ap f (same_Some o op e))
sum_more_at f (o ∷ code) (suc place) op e =
    let k : suc place + 1 ≡ suc (place + 1) = omega arith in
    let one : sum_by f (take (suc place + 1) (o ∷ code)) ≡ sum_by f (o ∷ take (place + 1) code) = ap (λ n. sum_by f (take n (o ∷ code))) k in
    omega (arith, one, sum_by-cons f o (take (place + 1) code), sum_by-cons f o (take place code), sum_more_at f code place op e)

sum_later : {A : Type 0} (f : A → ℕ) (xs : List A) (i j : ℕ) → i ≤ j → sum_by f (take i xs) ≤ sum_by f (take j xs)
sum_later f xs zero j le = omega arith
sum_later f xs (suc i) zero le = absurd (omega arith)
sum_later f [] (suc i) (suc j) le = omega arith
sum_later f (x ∷ xs) (suc i) (suc j) le =
    let below = sum_later f xs i j (omega arith) in
    omega (arith, sum_by-cons f x (take i xs), sum_by-cons f x (take j xs), below)

-- ---- the place at which a run goes on

fork_led : (b : Bool) (target from : ℕ) → (eqb (cond b target (from + 1)) target || eqb (cond b target (from + 1)) (from + 1)) ≡ true
fork_led true target from = rw (eq-eqb target target refl) refl
fork_led false target from = or_right (eqb (from + 1) target) (eqb (from + 1) (from + 1)) (eq-eqb (from + 1) (from + 1) refl)

-- the place that follows is one that the instruction leads to
led : (way : Flow) (from : ℕ) (cells : List Cell) → stops way ≡ false → leads way from (place_after way from cells) ≡ true
led Next from cells s = eq-eqb (from + 1) (from + 1) refl
led (To target) from cells s = eq-eqb target target refl
led (Fork target wanted) from [] s = fork_led false target from
led (Fork target wanted) from (flag x ∷ cells) s = fork_led (beq x wanted) target from
led (Fork target wanted) from (number x ∷ cells) s = fork_led false target from
led (Fork target wanted) from (text x ∷ cells) s = fork_led false target from
led Stop from cells s = absurd cc

goes_on : (way : Flow) (from : ℕ) (cells : List Cell) (steps : ℕ) → stops way ≡ false
    → go_on way from (Some cells) steps ≡ Running (place_after way from cells) cells steps
goes_on Next from cells steps s = refl
goes_on (To target) from cells steps s = refl
goes_on (Fork target wanted) from cells steps s = refl
goes_on Stop from cells steps s = absurd cc

length-kinds_in : (cells : List Cell) → length (kinds_in cells) ≡ length cells
length-kinds_in [] = refl
length-kinds_in (x ∷ cells) = ap suc (length-kinds_in cells)

only_flag : (cells : List Cell) → kinds_in cells ≡ cell.Flag ∷ [] → (x : Bool) × (cells ≡ flag x ∷ [])
only_flag [] e = absurd cc
only_flag (flag x ∷ []) e = (x, refl)
only_flag (flag x ∷ (y ∷ rest)) e = absurd cc
only_flag (number x ∷ rest) e = absurd cc
only_flag (text x ∷ rest) e = absurd cc

-- the state after an instruction that does not end the program
goes : (raw : Raw) (lists : KnownKinds) (item : Item) (width place : ℕ) (cells : List Cell) (steps : ℕ) (op : Op)
    → HasWidth raw item width → IsFit raw lists width place cells steps → IsWell raw lists place op (kinds_in cells)
    → stops (flow op) ≡ false
    → GoesWell raw lists width place (go_on (flow op) place (cells_after raw item op cells) (steps + charge raw op cells))
goes raw lists item width place cells steps op w fit well s =
    let l = leaves raw item width op cells s w (well.operands.enough, well.operands.right) well.named fit.narrow in
    let to : ℕ = place_after (flow op) place l.after in
    let n = well.next to (led (flow op) place l.after s) in
    let paid = sum_later (most_cost raw width) raw.code (place + 1) to (omega (arith, n.later)) in
    let more = sum_more_at (most_cost raw width) raw.code place op well.there in
    let fee = charged raw width op cells fit.narrow in
    let result : GoesWell raw lists width place (Running to l.after (steps + charge raw op cells)) = (
      n.later,
      record {
        within = n.within;
        known = n.known ∙ ap (λ (k : Kinds). Some k) (sym l.kinds);
        low = omega (arith, length-kinds_in l.after, ap length l.kinds, well.low);
        narrow = l.narrow;
        paid = omega (arith, fit.paid, paid, more, fee);
      },
    ) in
    subst (GoesWell raw lists width place) (sym (ap (λ o. go_on (flow op) place o (steps + charge raw op cells)) l.is
    ∙ goes_on (flow op) place l.after (steps + charge raw op cells) s)) result

-- the answer of an instruction that ends the program
ends : (raw : Raw) (lists : KnownKinds) (item : Item) (width place : ℕ) (cells : List Cell) (steps : ℕ)
    → IsFit raw lists width place cells steps → IsWell raw lists place Return (kinds_in cells)
    → GoesWell raw lists width place (go_on Stop place (cells_after raw item Return cells) (steps + charge raw Return cells))
unfolding cells_after
ends raw lists item width place cells steps fit well =
    let f = only_flag cells (well.operands.alone refl) in
    let more = sum_more_at (most_cost raw width) raw.code place Return well.there in
    let all = sum_by-take-le (most_cost raw width) raw.code (place + 1) in
    let paid : steps + 1 ≤ sum_by (most_cost raw width) raw.code = omega (arith, fit.paid, more, all) in
    subst (λ (c : List Cell). GoesWell raw lists width place (answer_of c (steps + 1))) (sym f.1) paid

goes_or_ends : (raw : Raw) (lists : KnownKinds) (item : Item) (width place : ℕ) (cells : List Cell) (steps : ℕ) (op : Op)
    → HasWidth raw item width → IsFit raw lists width place cells steps → IsWell raw lists place op (kinds_in cells)
    → (b : Bool) → stops (flow op) ≡ b
    → GoesWell raw lists width place (go_on (flow op) place (cells_after raw item op cells) (steps + charge raw op cells))
goes_or_ends raw lists item width place cells steps op w fit well false s = goes raw lists item width place cells steps op w fit well s
goes_or_ends raw lists item width place cells steps op w fit well true s =
    let is = stops-Return op (stops-true (flow op) s) in
    subst (λ (o : Op). GoesWell raw lists width place (go_on (flow o) place (cells_after raw item o cells) (steps + charge raw o cells))) (sym is)
    (ends raw lists item width place cells steps fit (subst (λ (o : Op). IsWell raw lists place o (kinds_in cells)) is well))

-- from a state that fits, one step goes well
pub steps_go_well : StepsGoWell
unfolding step
steps_go_well raw lists item width typing w place cells steps fit =
    let at = typing.each place fit.within in
    let same : at.1 ≡ kinds_in cells = same_Some at.1 (kinds_in cells) (sym at.2.reached ∙ fit.known) in
    let well = subst (IsWell raw lists place at.0) same at.2 in
    rw well.there (goes_or_ends raw lists item width place cells steps at.0 w fit well (stops (flow at.0)) refl)

-- a run begins with a state that fits
pub runs_begin_well : RunsBeginWell
runs_begin_well raw lists width valid typing = record {
  within = valid.some;
  known = typing.start;
  low = omega arith;
  narrow = tt;
  paid = omega arith;
}
