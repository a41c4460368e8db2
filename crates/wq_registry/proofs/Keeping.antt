-- Programs that are kept stand for the texts of their keys.
use Rattle.std.proofs.Common.{◌≡◌, ℕ, Bool, true, false, List, Some, Ok, Contains, sym, subst}
use Rattle.std.proofs.Common.{◌≤◌, nat_eq, ◌&&◌, ◌⊎◌, inl, inr, Option, Result, Err, OnOk, OnErr, IfOk, IfSome}
use Rattle.std.specs.Result.{result_ok}
use Rattle.std.proofs.lemmas.Bool.{and_parts, eqb-true}
use Rattle.std.specs.Str.{bytes_eq}
use Rattle.std.proofs.lemmas.Slice.Eq.{bytes_eq-Decides}
use Rattle.std.specs.Map.{lookup}
use Rattle.lru.proofs.CallerLemmas.{Contains-lookup, Contains-promoted, Contains-put_entries}
use Rattle.lru.specs.LruCache.{LruCache, lru_cache, promoted, put_entries}
use Rattle.std.specs.declared.sync.Arc.{Arc}
use Rattle.std.specs.String.{string_bytes}
use Rattle.serde_json.specs.Data.{Data}
use Rattle.serde_json.specs.Read.{read}
use Rattle.wq_clock.specs.Instance.{InstanceData}
use Rattle.wq_code.specs.declared.raw.Raw.{Raw}
use Rattle.wq_term.specs.Expr.{ExprData}
use Rattle.wq_term.specs.Limit.{max_depth}
use Rattle.wq_term.specs.Reading.{reads_as}
use Rattle.wq_compile.specs.Cost.{most_steps_of}
use Rattle.wq_compile.specs.Large.{is_too_large}
use Rattle.wq_verify.specs.Budget.{budget_of}
use Rattle.wq_record.specs.Limit.{max_name}
use Rattle.wq_compile.specs.Meaning.{AnswersMeaning}
use Rattle.wq_registry.specs.declared.key.Key.{Key}
use Rattle.wq_registry.specs.CacheKey.{CacheKeyData, Says}
use Rattle.wq_registry.specs.Kept.{CacheData, StandsFor, KeepsMeanings, instance_at}

module _ (instance : InstanceData) (text : List ℕ) (raw : Raw) (d : Data) (t : ExprData) (says : read text ≡ Some d) (reads : reads_as instance max_depth d ≡ Ok t) where
  -- a program that answers the value of the text stands for the text
  pub stands : AnswersMeaning raw t → is_too_large t ≡ false → budget_of raw max_name ≤ most_steps_of t → StandsFor instance text raw
  unfolding StandsFor
  stands means small cost d' t' says' reads' =
      let same : d ≡ d' = cc in
      let same_term : t ≡ t' = cc in
      (subst (AnswersMeaning raw) same_term means, subst (λ t. is_too_large t ≡ false) same_term small, subst (λ t. budget_of raw max_name ≤ most_steps_of t) same_term cost)

  -- and one that stands for the text answers so
  pub stood : StandsFor instance text raw → AnswersMeaning raw t × (is_too_large t ≡ false) × (budget_of raw max_name ≤ most_steps_of t)
  unfolding StandsFor
  stood stands = stands d t says reads

module _ (key : CacheKeyData) (t : ExprData) (raw : Raw) (says : Says key t) where
  -- a program that answers the text of a key stands for it
  pub stands_for : AnswersMeaning raw t → is_too_large t ≡ false → budget_of raw max_name ≤ most_steps_of t → StandsFor key.instance key.text raw
  stands_for = stands key.instance key.text raw says.0 t says.1 says.2

  -- and one that stands for it answers so
  pub stood_for : StandsFor key.instance key.text raw → AnswersMeaning raw t × (is_too_large t ≡ false) × (budget_of raw max_name ≤ most_steps_of t)
  stood_for = stood key.instance key.text raw says.0 t says.1 says.2

-- two keys are one if they are equal
same_keys : (j k : Key) → (nat_eq j.root k.root && bytes_eq (string_bytes j.text) (string_bytes k.text)) ≡ true → (j.root ≡ k.root) × (string_bytes j.text ≡ string_bytes k.text)
same_keys j k h =
    let parts = and_parts _ _ h in
    (eqb-true j.root k.root parts.0, (bytes_eq-Decides (string_bytes j.text) (string_bytes k.text)).0 parts.1)

module _ {Z : Type 0} (cache : CacheData) (kept : List (Key × Arc Raw Z)) (key : Key) where
  -- a program that is kept under a key stands for its text
  pub found : (program : Arc Raw Z) → KeepsMeanings cache kept → lookup (λ k. nat_eq key.root k.root && bytes_eq (string_bytes key.text) (string_bytes k.text)) kept ≡ Some program → StandsFor (instance_at cache key.root) (string_bytes key.text) program.value
  found program meanings h =
      let on = Contains-lookup (λ k. nat_eq key.root k.root && bytes_eq (string_bytes key.text) (string_bytes k.text)) kept program h in
      let same = same_keys key on.0 on.2 in
      subst (λ root. StandsFor (instance_at cache root) (string_bytes key.text) program.value) (sym same.0)
      (subst (λ text. StandsFor (instance_at cache (on.0).root) text program.value) (sym same.1) (meanings (on.0, program) on.1))

  -- one that was asked for last comes first, and all stay
  pub still : KeepsMeanings cache kept → KeepsMeanings cache (promoted (λ k. nat_eq key.root k.root && bytes_eq (string_bytes key.text) (string_bytes k.text)) kept)
  still meanings e there = meanings e (Contains-promoted (λ k. nat_eq key.root k.root && bytes_eq (string_bytes key.text) (string_bytes k.text)) kept e there)

-- two keys are compared so
abbrev pub same_key : Key → Key → Bool
same_key j k = nat_eq j.root k.root && bytes_eq (string_bytes j.text) (string_bytes k.text)

module _ {Z : Type 0} (cache : CacheData) (old : LruCache Key (Arc Raw Z)) (key : Key) (program : Arc Raw Z) where
  -- one that stands for the text of its key may be put
  well_put : KeepsMeanings cache old.entries → StandsFor (instance_at cache key.root) (string_bytes key.text) program.value → KeepsMeanings cache (put_entries same_key old key program)
  well_put meanings stands e there = elim (Contains-put_entries same_key old key program e there) [
    | inl was ↦ meanings e was
    | inr now ↦ subst (λ (p : Arc Raw Z). StandsFor (instance_at cache (e.0).root) (string_bytes (e.0).text) p.value) (sym now.0) (under now.1)
  ]
    where
      under : ((e.0 ≡ key) ⊎ ((w : Arc Raw Z) × Contains old.entries (e.0, w) × (same_key key e.0 ≡ true))) → StandsFor (instance_at cache (e.0).root) (string_bytes (e.0).text) program.value
      under (inl same) = subst (λ (k : Key). StandsFor (instance_at cache k.root) (string_bytes k.text) program.value) (sym same) stands
      under (inr there) =
          let same = same_keys key e.0 there.2 in
          subst (λ root. StandsFor (instance_at cache root) (string_bytes (e.0).text) program.value) same.0
          (subst (λ text. StandsFor (instance_at cache key.root) text program.value) same.1 stands)

  -- whether memory suffices or not
  pub put_or_not : {A E : Type 0} (new : LruCache Key (Arc Raw Z)) (result : Result A E) → OnOk result (new ≡ lru_cache (put_entries same_key old key program) old.cap) → OnErr result (new ≡ old) → KeepsMeanings cache old.entries → StandsFor (instance_at cache key.root) (string_bytes key.text) program.value → KeepsMeanings cache new.entries
  put_or_not new (Ok a) ok err meanings stands = subst (λ (c : LruCache Key (Arc Raw Z)). KeepsMeanings cache c.entries) (sym ok) (well_put meanings stands)
  put_or_not new (Err e) ok err meanings stands = subst (λ (c : LruCache Key (Arc Raw Z)). KeepsMeanings cache c.entries) (sym err) meanings

-- a program that is shared stands for the same text
pub shared : {Z E : Type 0} (instance : InstanceData) (text : List ℕ) (seen : Arc Raw Z) (o : Option (Arc Raw Z)) (r : Result (Arc Raw Z) E) → o ≡ result_ok r → IfOk r (λ a. a.value ≡ seen.value) → StandsFor instance text seen.value → IfSome o (λ p. StandsFor instance text p.value)
shared instance text seen o (Ok a) is same stands = subst (λ o. IfSome o (λ p. StandsFor instance text p.value)) (sym is) (subst (λ (raw : Raw). StandsFor instance text raw) (sym same) stands)
shared instance text seen o (Err e) is same stands = subst (λ o. IfSome o (λ p. StandsFor instance text p.value)) (sym is) tt
