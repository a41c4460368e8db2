-- Bytes that are written after others, whole or as a front.
use Rattle.std.proofs.Common.{◌≡◌, ◌≤◌, ◌<◌, ℕ, ◌+◌, ◌-◌, List, [], ◌++◌, length, take, drop, Option, Some, None, Result, Ok, Err, OnErr, refl, sym, ap, subst, ◌∙◌, arith, length-append}
use Rattle.std.proofs.Math.Seq.{take-add}
use Rattle.std.proofs.lemmas.List.{append-nil, append_assoc, take-append-drop, take_all, length-drop, length-take-le}
use Rattle.std.specs.Io.KnownBytes.{Appends, Keeps}
use Rattle.wq_base.specs.Writing.{WritesFront}

-- nothing was written
pub appends_none : (known : Option (List ℕ)) → Appends known known []
appends_none None = tt
appends_none (Some xs) = sym (append-nil xs)

-- bytes that are written after others
pub appends_then : (a b c : Option (List ℕ)) (xs ys : List ℕ) → Appends a b xs → Appends b c ys → Appends a c (xs ++ ys)
appends_then None b c xs ys first second = tt
appends_then (Some old) None c xs ys first second = absurd first
appends_then (Some old) (Some mid) None xs ys first second = absurd second
appends_then (Some old) (Some mid) (Some new) xs ys first second =
    second ∙ ap (λ l. l ++ ys) first ∙ append_assoc old xs ys

-- bytes that were written, after which nothing more was
pub appends_kept : (a b c : Option (List ℕ)) (xs : List ℕ) → Appends a b xs → Keeps b c → Appends a c xs
appends_kept None b c xs first kept = tt
appends_kept (Some old) None c xs first kept = absurd first
appends_kept (Some old) (Some mid) None xs first kept = absurd kept
appends_kept (Some old) (Some mid) (Some new) xs first kept = kept ∙ first

-- a front of some bytes is one of these and others after them
pub front_before : (a b : Option (List ℕ)) (xs ys : List ℕ) → WritesFront a b xs → WritesFront a b (xs ++ ys)
front_before a b xs ys (front, back, is, short, appends) =
    (front, back ++ ys, ap (λ l. l ++ ys) is ∙ append_assoc front back ys, omega (arith, short, length-append xs ys), appends)

-- a front of some bytes after others that were written whole
pub front_behind : (a b c : Option (List ℕ)) (xs ys : List ℕ) → Appends a b xs → WritesFront b c ys
    → WritesFront a c (xs ++ ys)
front_behind a b c xs ys whole (front, back, is, short, appends) = (
  xs ++ front,
  back,
  ap (λ l. xs ++ l) is ∙ sym (append_assoc xs front back),
  omega (arith, short, length-append xs ys, length-append xs front),
  appends_then a b c xs front whole appends,
)

-- a part of some bytes that was written after the front of them before it
pub part_behind : (a b c : Option (List ℕ)) (bytes : List ℕ) (done count : ℕ) → done ≤ length bytes
    → count ≤ length (take (length bytes - done) (drop done bytes)) → Appends a b (take done bytes)
    → Appends b c (take count (take (length bytes - done) (drop done bytes)))
    → (done + count ≤ length bytes) × Appends a c (take (done + count) bytes)
part_behind a b c bytes done count within fits first second =
    let rest : take (length bytes - done) (drop done bytes) ≡ drop done bytes =
    take_all (length bytes - done) (drop done bytes) (omega (arith, length-drop done bytes)) in
    let few : count ≤ length (drop done bytes) = subst (λ l. count ≤ length l) rest fits in (
      omega (arith, few, length-drop done bytes),
      subst (Appends a c) (sym (take-add done count bytes))
          (appends_then a b c (take done bytes) (take count (drop done bytes)) first (subst (λ l. Appends b c (take count l)) rest second)),
    )

-- a writer that failed after a front of some bytes
pub front_kept : (a b c : Option (List ℕ)) (bytes : List ℕ) (done : ℕ) → done < length bytes → Appends a b (take done bytes)
    → Keeps b c → WritesFront a c bytes
front_kept a b c bytes done short first kept = (
  take done bytes,
  drop done bytes,
  sym (take-append-drop done bytes),
  omega (arith, short, length-take-le done bytes (omega (arith, short))),
  appends_kept a b c (take done bytes) first kept,
)

-- a fact holds if there is an error
pub on_err : {T E P : Type 0} (result : Result T E) → P → OnErr result P
on_err (Ok value) holds = tt
on_err (Err fault) holds = holds

-- known bytes are kept as they are
pub keeps_same : (known : Option (List ℕ)) → Keeps known known
keeps_same None = tt
keeps_same (Some bytes) = refl
