-- A program file whole: it is read as it is written, and nothing else is read.
use Rattle.std.proofs.Common.{◌≡◌, ℕ, ◌≤◌, Bool, true, false, cond, eqb, List, [], ◌∷◌, ◌++◌, length, Result, Ok, Err, refl, sym, ap, subst, ◌∙◌, append_assoc, arith, lit<}
use Rattle.std.specs.Prelude.{codes, FitsSigned, ◌<◌, ◌==◌, find}
use Rattle.std.specs.List.{All, flat_map}
use Rattle.std.specs.Int.{w64}
use Rattle.std.proofs.lemmas.Bool.{eqb-true, ltb-true}
use Rattle.std.proofs.lemmas.List.Elements.{All-weaker}
use Rattle.std.proofs.lemmas.List.Sums.{AllPass-from_list_all, list_all-from_AllPass}
use Rattle.wq_code.specs.Limit.{max_rows_in, max_sets_in, room_in}
use Rattle.wq_code.specs.Fits.{is_short_text, is_list, is_pattern, is_pattern_set, is_op, raw_fits_in}
use Rattle.wq_code.specs.Word.{b_of}
use Rattle.wq_code.specs.Reading.{◌>>=◌, exact_at, byte_at, or_file_fault, wide_at, many_at, number_at, text_at, list_at, pattern_at, set_at, op_at}
use Rattle.wq_code.specs.File.{version_code, head_at, rows_at, sets_count_at, counts_at, tables_at, raw_at}
use Rattle.wq_code.specs.Spelling.{wide, number, text, entries, pattern, set, instruction, sets_count, spelling_in, AreBytes, FitsFields}
use Rattle.wq_code.specs.declared.fault.FileFault.{FileFault}
use Rattle.wq_code.specs.declared.fault.FileFault.TheVariants.{WrongMagic, OtherVersion}
use Rattle.wq_code.specs.declared.file.Counts.{Counts}
use Rattle.wq_code.specs.declared.raw.Raw.{Raw}
use Rattle.wq_code.specs.declared.operation.Op.{Op}
use Rattle.wq_code.specs.declared.operation.Op.TheVariants.{AnyMatch}
use Rattle.wq_code.specs.declared.version.Version.{Version}
use Rattle.wq_code.specs.declared.version.Version.TheVariants.{First, Second}
use Rattle.wq_code.proofs.FitsLemmas.{within, fits-within}
use Rattle.wq_code.proofs.Forms.{bind_then, ok_is, all_both, rest_are_bytes, IsForm, wide-form, count-form, number-form, text-form, list-form, pattern-form, set-form, many-form, IsText, IsList, IsPattern, IsSet}
use Rattle.wq_code.proofs.OpForms.{some_fault, find_passes, op-form, IsOp}

-- exactly these bytes
matched : (fault : FileFault) (x b : ℕ) (xs bytes : List ℕ) (read : Result (List ℕ) FileFault) (rest : List ℕ) (same : Bool)
    → eqb b x ≡ same → (read ≡ Ok rest → bytes ≡ xs ++ rest) → cond same read (Err fault) ≡ Ok rest → b ∷ bytes ≡ x ∷ xs ++ rest
matched fault x b xs bytes read rest true is others e =
    ap (λ (c : ℕ). c ∷ bytes) (eqb-true b x is) ∙ ap (λ (r : List ℕ). x ∷ r) (others e)
matched fault x b xs bytes read rest false is others e = absurd cc

-- bytes that are read exactly so are at the front
pub exact_at-takes : (fault : FileFault) (xs bytes rest : List ℕ) → exact_at fault xs bytes ≡ Ok rest → bytes ≡ xs ++ rest
exact_at-takes fault [] bytes rest e = ok_is bytes rest e
exact_at-takes fault (x ∷ xs) [] rest e = absurd cc
exact_at-takes fault (x ∷ xs) (b ∷ bytes) rest e =
    matched fault x b xs bytes (exact_at fault xs bytes) rest (eqb b x) refl (exact_at-takes fault xs bytes rest) e

-- a field, and then the fields after it
pub joined : (bytes front after tail rest : List ℕ) → bytes ≡ front ++ after → after ≡ tail ++ rest → bytes ≡ (front ++ tail) ++ rest
joined bytes front after tail rest p q = p ∙ ap (λ (r : List ℕ). front ++ r) q ∙ sym (append_assoc front tail rest)

-- the magic and the version
abbrev pub head : Version → List ℕ
head version = codes "WQPF" ++ version_code version ∷ []

version_is : (code : ℕ) (bytes : List ℕ) (x : Version × List ℕ)
    → (or_file_fault (find (λ v. version_code v == code) (First ∷ Second ∷ [])) OtherVersion >>= λ v. Ok (v, bytes)) ≡ Ok x
    → (code ∷ bytes) ≡ version_code x.0 ∷ x.1
version_is code bytes x e =
    bind_then (or_file_fault (find (λ v. version_code v == code) (First ∷ Second ∷ [])) OtherVersion) _ x e (λ v ev e.
    let coded = eqb-true _ _ (find_passes (λ v. version_code v == code) (First ∷ Second ∷ []) v (some_fault _ _ _ ev)) in
    subst (λ (y : Version × List ℕ). (code ∷ bytes) ≡ version_code y.0 ∷ y.1) (ok_is _ x e)
    (ap (λ (c : ℕ). c ∷ bytes) (sym coded)))

behind_magic : (bytes : List ℕ) (x : Version × List ℕ)
    → (byte_at bytes >>= λ c. or_file_fault (find (λ v. version_code v == c.0) (First ∷ Second ∷ [])) OtherVersion >>= λ v. Ok (v, c.1)) ≡ Ok x
    → bytes ≡ version_code x.0 ∷ x.1
behind_magic [] x e = absurd cc
behind_magic (code ∷ bytes) x e = version_is code bytes x e

-- what is read as a head begins with it
pub head_at-takes : (bytes : List ℕ) (x : Version × List ℕ) → head_at bytes ≡ Ok x → bytes ≡ head x.0 ++ x.1
unfolding head_at
head_at-takes bytes x e =
    bind_then (exact_at WrongMagic (codes "WQPF") bytes) _ x e (λ after m v.
    exact_at-takes WrongMagic (codes "WQPF") bytes after m
    ∙ ap (λ (r : List ℕ). codes "WQPF" ++ r) (behind_magic after x v))

-- the counts
abbrev pub counts : Version → Counts → List ℕ
counts v c =
    wide v c.nums ++ (wide v c.texts ++ (wide v c.lists ++ (wide v c.patterns
    ++ (sets_count v c.sets ++ wide v c.code))))

-- each count is within its limit
pub record AreCounts (version : Version) (c : Counts) : Type 0 where
  pub nums : c.nums ≤ max_rows_in version
  pub texts : c.texts ≤ max_rows_in version
  pub lists : c.lists ≤ max_rows_in version
  pub patterns : c.patterns ≤ max_rows_in version
  pub sets : c.sets ≤ max_sets_in version
  pub code : c.code ≤ max_rows_in version

rows_below : (version : Version) → max_rows_in version < room_in version
rows_below First = lit< tt
rows_below Second = lit< tt

count : (version : Version) → IsForm (rows_at version) (wide version) (λ n. n ≤ max_rows_in version)
count version =
    count-form (wide_at version) (wide version) (room_in version) (wide-form version) (max_rows_in version) (rows_below version)

no_more : (n : ℕ) → n ≤ 0 → n ≡ 0
no_more n h = omega arith

sets-form : (version : Version) → IsForm (sets_count_at version) (sets_count version) (λ n. n ≤ max_sets_in version)
sets-form First = record {
  takes = λ bytes x fits e.
      subst (λ (y : ℕ × List ℕ). (bytes ≡ y.1) × (y.0 ≤ 0)) (ok_is (0, bytes) x e) (refl, omega arith);
  again = λ n rest h. ap (λ (m : ℕ). Ok (m, rest)) (sym (no_more n h));
}
sets-form Second = record { takes = (count Second).takes; again = (count Second).again }

counts_takes : (v : Version) (bytes : List ℕ) (x : Counts × List ℕ) → AreBytes bytes → counts_at v bytes ≡ Ok x
    → (bytes ≡ counts v x.0 ++ x.1) × AreCounts v x.0
unfolding counts_at
counts_takes v bytes x fits e =
    bind_then (rows_at v bytes) _ x e (λ a ea e.
    let ta = (count v).takes bytes a fits ea in
    let fa = rest_are_bytes bytes (wide v a.0) a.1 fits ta.0 in
    bind_then (rows_at v a.1) _ x e (λ b eb e.
    let tb = (count v).takes a.1 b fa eb in
    let fb = rest_are_bytes a.1 (wide v b.0) b.1 fa tb.0 in
    bind_then (rows_at v b.1) _ x e (λ c ec e.
    let tc = (count v).takes b.1 c fb ec in
    let fc = rest_are_bytes b.1 (wide v c.0) c.1 fb tc.0 in
    bind_then (rows_at v c.1) _ x e (λ d ed e.
    let td = (count v).takes c.1 d fc ed in
    let fd = rest_are_bytes c.1 (wide v d.0) d.1 fc td.0 in
    bind_then (sets_count_at v d.1) _ x e (λ s es e.
    let ts = (sets-form v).takes d.1 s fd es in
    let fs = rest_are_bytes d.1 (sets_count v s.0) s.1 fd ts.0 in
    bind_then (rows_at v s.1) _ x e (λ f ef e.
    let tf = (count v).takes s.1 f fs ef in
    let p5 = joined d.1 (sets_count v s.0) s.1 (wide v f.0) f.1 ts.0 tf.0 in
    let p4 = joined c.1 (wide v d.0) d.1 (sets_count v s.0 ++ wide v f.0) f.1 td.0 p5 in
    let p3 = joined b.1 (wide v c.0) c.1 (wide v d.0 ++ (sets_count v s.0 ++ wide v f.0)) f.1 tc.0 p4 in
    let p2 = joined a.1 (wide v b.0) b.1 (wide v c.0 ++ (wide v d.0 ++ (sets_count v s.0 ++ wide v f.0))) f.1 tb.0 p3 in
    let p1 = joined bytes (wide v a.0) a.1
    (wide v b.0 ++ (wide v c.0 ++ (wide v d.0 ++ (sets_count v s.0 ++ wide v f.0)))) f.1 ta.0 p2 in
    subst (λ (y : Counts × List ℕ). (bytes ≡ counts v y.0 ++ y.1) × AreCounts v y.0) (ok_is _ x e)
    (p1, record { nums = ta.1; texts = tb.1; lists = tc.1; patterns = td.1; sets = ts.1; code = tf.1 })))))))

counts_again : (v : Version) (c : Counts) (rest : List ℕ) → AreCounts v c → counts_at v (counts v c ++ rest) ≡ Ok (c, rest)
unfolding counts_at
counts_again v c rest h =
    let regrouped : counts v c ++ rest ≡ wide v c.nums ++ (wide v c.texts ++ (wide v c.lists ++ (wide v c.patterns
    ++ (sets_count v c.sets ++ (wide v c.code ++ rest))))) = simp append_assoc in
    ap (counts_at v) regrouped
    ∙ rw (
      (count v).again c.nums _ h.nums,
      (count v).again c.texts _ h.texts,
      (count v).again c.lists _ h.lists,
      (count v).again c.patterns _ h.patterns,
      (sets-form v).again c.sets _ h.sets,
      (count v).again c.code _ h.code,
    ) refl

-- counts are read as they are written
pub counts-form : (version : Version) → IsForm (counts_at version) (counts version) (AreCounts version)
counts-form version = record { takes = counts_takes version; again = counts_again version }

-- the tables
abbrev pub tables : Version → Raw → List ℕ
tables v raw =
    flat_map number raw.nums ++ (flat_map text raw.texts ++ (flat_map (entries v) raw.lists
    ++ (flat_map pattern raw.patterns ++ (flat_map set raw.sets ++ flat_map (instruction v) raw.code))))

abbrev IsRow : {A : Type 0} → (A → Type 0) → ℕ → List A → Type 0
IsRow Good n rows = (length rows ≡ n) × All Good rows

-- the tables have so many rows, each of them good
pub record AreTables (v : Version) (c : Counts) (raw : Raw) : Type 0 where
  pub nums : IsRow (λ n. FitsSigned w64 n) c.nums raw.nums
  pub texts : IsRow IsText c.texts raw.texts
  pub lists : IsRow (IsList v) c.lists raw.lists
  pub patterns : IsRow IsPattern c.patterns raw.patterns
  pub sets : IsRow IsSet c.sets raw.sets
  pub code : IsRow (IsOp v) c.code raw.code

tables_takes : (v : Version) (counts : Counts) (bytes : List ℕ) (x : Raw × List ℕ) → AreBytes bytes → tables_at v counts bytes ≡ Ok x
    → (bytes ≡ tables v x.0 ++ x.1) × AreTables v counts x.0
unfolding tables_at
tables_takes v counts bytes x fits e =
    bind_then (many_at number_at counts.nums bytes) _ x e (λ a ea e.
    let ta = (many-form _ _ _ number-form counts.nums).takes bytes a fits ea in
    let fa = rest_are_bytes bytes (flat_map number a.0) a.1 fits ta.0 in
    bind_then (many_at text_at counts.texts a.1) _ x e (λ b eb e.
    let tb = (many-form _ _ _ text-form counts.texts).takes a.1 b fa eb in
    let fb = rest_are_bytes a.1 (flat_map text b.0) b.1 fa tb.0 in
    bind_then (many_at (list_at v) counts.lists b.1) _ x e (λ c ec e.
    let tc = (many-form _ _ _ (list-form v) counts.lists).takes b.1 c fb ec in
    let fc = rest_are_bytes b.1 (flat_map (entries v) c.0) c.1 fb tc.0 in
    bind_then (many_at pattern_at counts.patterns c.1) _ x e (λ d ed e.
    let td = (many-form _ _ _ pattern-form counts.patterns).takes c.1 d fc ed in
    let fd = rest_are_bytes c.1 (flat_map pattern d.0) d.1 fc td.0 in
    bind_then (many_at set_at counts.sets d.1) _ x e (λ s es e.
    let ts = (many-form _ _ _ set-form counts.sets).takes d.1 s fd es in
    let fs = rest_are_bytes d.1 (flat_map set s.0) s.1 fd ts.0 in
    bind_then (many_at (op_at v) counts.code s.1) _ x e (λ f ef e.
    let tf = (many-form _ _ _ (op-form v) counts.code).takes s.1 f fs ef in
    let p5 = joined d.1 (flat_map set s.0) s.1 (flat_map (instruction v) f.0) f.1 ts.0 tf.0 in
    let p4 = joined c.1 (flat_map pattern d.0) d.1 (flat_map set s.0 ++ flat_map (instruction v) f.0) f.1 td.0 p5 in
    let p3 = joined b.1 (flat_map (entries v) c.0) c.1
    (flat_map pattern d.0 ++ (flat_map set s.0 ++ flat_map (instruction v) f.0)) f.1 tc.0 p4 in
    let p2 = joined a.1 (flat_map text b.0) b.1
    (flat_map (entries v) c.0 ++ (flat_map pattern d.0 ++ (flat_map set s.0 ++ flat_map (instruction v) f.0))) f.1 tb.0 p3 in
    let p1 = joined bytes (flat_map number a.0) a.1
    (flat_map text b.0 ++ (flat_map (entries v) c.0 ++ (flat_map pattern d.0 ++ (flat_map set s.0 ++ flat_map (instruction v) f.0)))) f.1 ta.0 p2 in
    subst (λ (y : Raw × List ℕ). (bytes ≡ tables v y.0 ++ y.1) × AreTables v counts y.0) (ok_is _ x e)
    (p1, record { nums = ta.1; texts = tb.1; lists = tc.1; patterns = td.1; sets = ts.1; code = tf.1 })))))))

tables_again : (v : Version) (c : Counts) (raw : Raw) (rest : List ℕ) → AreTables v c raw → tables_at v c (tables v raw ++ rest) ≡ Ok (raw, rest)
unfolding tables_at
tables_again v c raw rest h =
    let regrouped : tables v raw ++ rest ≡ flat_map number raw.nums ++ (flat_map text raw.texts
    ++ (flat_map (entries v) raw.lists ++ (flat_map pattern raw.patterns ++ (flat_map set raw.sets
    ++ (flat_map (instruction v) raw.code ++ rest))))) = simp append_assoc in
    ap (tables_at v c) regrouped
    ∙ rw (
      (many-form _ _ _ number-form c.nums).again raw.nums _ h.nums,
      (many-form _ _ _ text-form c.texts).again raw.texts _ h.texts,
      (many-form _ _ _ (list-form v) c.lists).again raw.lists _ h.lists,
      (many-form _ _ _ pattern-form c.patterns).again raw.patterns _ h.patterns,
      (many-form _ _ _ set-form c.sets).again raw.sets _ h.sets,
      (many-form _ _ _ (op-form v) c.code).again raw.code _ h.code,
    ) refl

-- ---- a program

-- how many rows the tables of a program have
abbrev pub counts_in : Raw → Counts
counts_in raw = record {
  nums = length raw.nums;
  texts = length raw.texts;
  lists = length raw.lists;
  patterns = length raw.patterns;
  sets = length raw.sets;
  code = length raw.code;
}

-- what is good of a program that a version can hold
abbrev pub IsFile : Version → Raw → Type 0
IsFile v raw = (raw_fits_in v raw ≡ true) × FitsFields raw

room_grows : (v : Version) (n : ℕ) → n < room_in v → n < room_in Second
room_grows First n h = omega (arith, h)
room_grows Second n h = h

op_room : (v : Version) (op : Op) → is_op v op ≡ true → b_of op < room_in Second → b_of op < room_in v
op_room Second op is small = small
op_room First (AnyMatch place) is small = absurd cc
op_room First op is small = ltb-true _ _ is

file_from : (v : Version) (c : Counts) (raw : Raw) → AreCounts v c → AreTables v c raw → IsFile v raw
file_from v c raw few good = (
  fits-within v raw (record {
    nums = omega (arith, few.nums, good.nums.0);
    texts = omega (arith, few.texts, good.texts.0);
    lists = omega (arith, few.lists, good.lists.0);
    patterns = omega (arith, few.patterns, good.patterns.0);
    sets = omega (arith, few.sets, good.sets.0);
    code = omega (arith, few.code, good.code.0);
    each_text = list_all-from_AllPass is_short_text raw.texts (All-weaker IsText (λ t. is_short_text t ≡ true) (λ _ h. h.0) raw.texts good.texts.1);
    each_list = list_all-from_AllPass (is_list v) raw.lists (All-weaker (IsList v) (λ t. is_list v t ≡ true) (λ _ h. h.0) raw.lists good.lists.1);
    each_pattern = list_all-from_AllPass is_pattern raw.patterns (All-weaker IsPattern (λ t. is_pattern t ≡ true) (λ _ h. h.0) raw.patterns good.patterns.1);
    each_set = list_all-from_AllPass is_pattern_set raw.sets (All-weaker IsSet (λ t. is_pattern_set t ≡ true) (λ _ h. h.0) raw.sets good.sets.1);
    each_op = list_all-from_AllPass (is_op v) raw.code (All-weaker (IsOp v) (λ t. is_op v t ≡ true) (λ _ h. h.0) raw.code good.code.1);
  }),
  record {
    nums = good.nums.1;
    texts = All-weaker IsText AreBytes (λ _ h. h.1) raw.texts good.texts.1;
    lists = All-weaker (IsList v) (All AreBytes) (λ _ h. h.1) raw.lists good.lists.1;
    patterns = All-weaker IsPattern (λ p. AreBytes p.text) (λ _ h. h.1) raw.patterns good.patterns.1;
    sets = All-weaker IsSet (All (λ p. AreBytes p.text)) (λ _ h. h.1) raw.sets good.sets.1;
    code = All-weaker (IsOp v) (λ op. b_of op < room_in Second) (λ op h. room_grows v (b_of op) h.1) raw.code good.code.1;
  },
)

counts_from : (v : Version) (raw : Raw) → IsFile v raw → AreCounts v (counts_in raw)
counts_from v raw h =
    let w = within v raw h.0 in
    record { nums = w.nums; texts = w.texts; lists = w.lists; patterns = w.patterns; sets = w.sets; code = w.code }

tables_from : (v : Version) (raw : Raw) → IsFile v raw → AreTables v (counts_in raw) raw
tables_from v raw h =
    let w = within v raw h.0 in
    let ops = all_both (λ t. is_op v t ≡ true) (λ op. b_of op < room_in Second) raw.code (AllPass-from_list_all (is_op v) raw.code w.each_op) h.1.code in
    record {
      nums = (refl, h.1.nums);
      texts = (refl, all_both (λ t. is_short_text t ≡ true) AreBytes raw.texts (AllPass-from_list_all is_short_text raw.texts w.each_text) h.1.texts);
      lists = (refl, all_both (λ t. is_list v t ≡ true) (All AreBytes) raw.lists (AllPass-from_list_all (is_list v) raw.lists w.each_list) h.1.lists);
      patterns = (refl, all_both (λ t. is_pattern t ≡ true) (λ p. AreBytes p.text) raw.patterns (AllPass-from_list_all is_pattern raw.patterns w.each_pattern) h.1.patterns);
      sets = (refl, all_both (λ t. is_pattern_set t ≡ true) (All (λ p. AreBytes p.text)) raw.sets (AllPass-from_list_all is_pattern_set raw.sets w.each_set) h.1.sets);
      code = (refl, All-weaker (λ op. (is_op v op ≡ true) × (b_of op < room_in Second)) (IsOp v) (λ op h. (h.0, op_room v op h.0 h.1)) raw.code ops);
    }

-- what is read as a program is its file in some version, and what follows
pub raw_takes : (bytes : List ℕ) (x : Raw × List ℕ) → AreBytes bytes → raw_at bytes ≡ Ok x
    → (v : Version) × ((bytes ≡ spelling_in v x.0 ++ x.1) × IsFile v x.0)
unfolding raw_at spelling_in
raw_takes bytes x fits e =
    bind_then (head_at bytes) _ x e (λ r er e.
    let tr = head_at-takes bytes r er in
    let fr = rest_are_bytes bytes (head r.0) r.1 fits tr in
    bind_then (counts_at r.0 r.1) _ x e (λ c ec e.
    let tc = (counts-form r.0).takes r.1 c fr ec in
    let fc = rest_are_bytes r.1 (counts r.0 c.0) c.1 fr tc.0 in
    let t = tables_takes r.0 c.0 c.1 x fc e in
    let whole = joined bytes (head r.0) r.1 (counts r.0 c.0 ++ tables r.0 x.0) x.1 tr (joined r.1 (counts r.0 c.0) c.1 (tables r.0 x.0) x.1 tc.0 t.0) in
    let same : counts r.0 c.0 ≡ counts r.0 (counts_in x.0) =
    rw (t.1.nums.0, t.1.texts.0, t.1.lists.0, t.1.patterns.0, t.1.sets.0, t.1.code.0) refl in
    let regrouped : head r.0 ++ (counts r.0 (counts_in x.0) ++ tables r.0 x.0) ≡ spelling_in r.0 x.0 = simp append_assoc in (
      r.0,
      (
        whole ∙ ap (λ (f : List ℕ). (head r.0 ++ (f ++ tables r.0 x.0)) ++ x.1) same ∙ ap (λ (f : List ℕ). f ++ x.1) regrouped,
        file_from r.0 c.0 x.0 tc.1 t.1,
      ),
    )))

head_again : (v : Version) (rest : List ℕ) → head_at (head v ++ rest) ≡ Ok (v, rest)
unfolding head_at
head_again First rest = refl
head_again Second rest = refl

-- the file of a program in a version is read back, whatever follows
pub raw_again : (v : Version) (raw : Raw) (rest : List ℕ) → IsFile v raw → raw_at (spelling_in v raw ++ rest) ≡ Ok (raw, rest)
unfolding raw_at spelling_in
raw_again v raw rest h =
    let regrouped : spelling_in v raw ++ rest ≡ head v ++ (counts v (counts_in raw) ++ (tables v raw ++ rest)) = simp append_assoc in
    ap raw_at regrouped
    ∙ rw (
      head_again v (counts v (counts_in raw) ++ (tables v raw ++ rest)),
      (counts-form v).again (counts_in raw) (tables v raw ++ rest) (counts_from v raw h),
      tables_again v (counts_in raw) raw rest (tables_from v raw h),
    ) refl
