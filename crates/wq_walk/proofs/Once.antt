-- No path is listed twice: the rows of a walk, what it has still to look at, and what waits have no path in common.
use Rattle.std.proofs.Common.{◌≡◌, ℕ, zero, suc, Bool, true, false, not, ◌==◌, ◌&&◌, cond, List, [], ◌∷◌, ◌++◌, IsTrue, bytes_eq, inl, inr, refl, ap, sym, subst, ◌∙◌, ◌+◌, ◌≤◌, map, if◌then◌else◌, append_assoc, append-nil, length, arith}
use mathlib.Core.Bool.{false≢true}
use Rattle.std.specs.List.{AllByRecursion, IsDistinct, count_by, flat_map}
use Rattle.std.specs.Str.{byte}
use Rattle.std.proofs.lemmas.Bool.{and_parts, eqb-true, eq-eqb}
use Rattle.std.proofs.lemmas.List.Elements.{All-nil, recursion_from_All}
use Rattle.std.proofs.lemmas.List.Prefix.{front_rest}
use Rattle.std.proofs.lemmas.List.Sums.{sum_by-cons}
use Rattle.std.proofs.lemmas.Slice.Eq.{bytes_eq-Decides}
use Rattle.wq_record.specs.Seen.{SeenData}
use Rattle.wq_disk.specs.declared.part.Part.{Part}
use Rattle.wq_walk.specs.declared.piece.Piece.{Piece}
use Rattle.wq_walk.specs.declared.rows.Rows.{Rows}
use Rattle.wq_walk.specs.Accounts.{IsRowOfPath}
use Rattle.wq_disk.specs.Entries.{AreDistinct, AreEntries, has_no_slash, is_entry}
use Rattle.wq_walk.specs.Found.{found_rows}
use Rattle.wq_walk.specs.Listed.{walked_pieces}
use Rattle.wq_walk.specs.Once.{HaveOwnNames, ListingsListOnce, WalksListOnce}
use Rattle.wq_disk.specs.Part.{is_in}
use Rattle.wq_disk.specs.Told.{GivesStat, Has, HasEntries}
use Rattle.wq_disk.specs.Directory.{DirectoryData, fresh}
use Rattle.wq_walk.specs.Walk.{AreSteps, IsLooked, IsStep, IsWalk, WalkData, name_of_path, row_with_stat}
use Rattle.wq_walk.proofs.Accounts.{Below, Sound, rows_are_of_paths, sound_step}
use Rattle.wq_disk.proofs.Entries.{read_entries}

-- how often a test passes: once or never, and over a list
abbrev once : Bool → ℕ
once b = cond b 1 0

abbrev count : {X : Type 0} → (X → Bool) → List X → ℕ
count test [] = 0
count test (x ∷ xs) = once (test x) + count test xs

abbrev total : {X : Type 0} → (X → ℕ) → List X → ℕ
total f [] = 0
total f (x ∷ xs) = f x + total f xs

count-append : {X : Type 0} (test : X → Bool) (xs ys : List X) → count test (xs ++ ys) ≡ count test xs + count test ys
count-append test [] ys = omega arith
count-append test (x ∷ xs) ys = omega (arith, count-append test xs ys)

total-append : {X : Type 0} (f : X → ℕ) (xs ys : List X) → total f (xs ++ ys) ≡ total f xs + total f ys
total-append f [] ys = omega arith
total-append f (x ∷ xs) ys = omega (arith, total-append f xs ys)

count_none : {X : Type 0} (test : X → Bool) → ((x : X) → test x ≡ false) → (xs : List X) → count test xs ≡ 0
count_none test none [] = refl
count_none test none (x ∷ xs) = omega (arith, ap once (none x), count_none test none xs)

-- whether a path is that of a file, is below that of a directory, or is either
abbrev same : List ℕ → List ℕ → Bool
same [] [] = true
same [] (c ∷ q) = false
same (a ∷ p) [] = false
same (a ∷ p) (c ∷ q) = (a == c) && same p q

abbrev below : List ℕ → List ℕ → Bool
below [] [] = false
below [] (c ∷ q) = byte "/" == c
below (a ∷ p) [] = false
below (a ∷ p) (c ∷ q) = (a == c) && below p q

abbrev reach : List ℕ → List ℕ → Bool
reach [] [] = true
reach [] (c ∷ q) = byte "/" == c
reach (a ∷ p) [] = false
reach (a ∷ p) (c ∷ q) = (a == c) && reach p q

reach_is : (p q : List ℕ) → once (same p q) + once (below p q) ≡ once (reach p q)
reach_is [] [] = refl
reach_is [] (c ∷ q) = omega arith
reach_is (a ∷ p) [] = refl
reach_is (a ∷ p) (c ∷ q) = at (a == c) (reach_is p q)
  where
    at : (b : Bool) → once (same p q) + once (below p q) ≡ once (reach p q)
        → once (b && same p q) + once (b && below p q) ≡ once (b && reach p q)
    at true rest = rest
    at false rest = refl

same_refl : (p : List ℕ) → same p p ≡ true
same_refl [] = refl
same_refl (a ∷ p) = ap (λ b. b && same p p) (eq-eqb a a refl) ∙ same_refl p

-- a name that begins with the slash has one
slash_not : (b c : ℕ) (rest : Bool) → (b == c) ≡ true → (byte "/" == c) ≡ true
    → not (b == byte "/") && rest ≡ true → ⊥
slash_not b c rest at slash plain =
    let is : b ≡ byte "/" = eqb-true b c at ∙ sym (eqb-true (byte "/") c slash) in
    false≢true (sym (ap not (eq-eqb b (byte "/") is)) ∙ (and_parts (not (b == byte "/")) rest plain).0)

-- of names without a slash only one reaches a path
equal_reached : (n m t : List ℕ) → IsTrue (has_no_slash n) → IsTrue (has_no_slash m) → reach n t ≡ true → reach m t ≡ true → n ≡ m
equal_reached [] [] t hn hm rn rm = refl
equal_reached [] (b ∷ m) [] hn hm rn rm = absurd (false≢true rm)
equal_reached [] (b ∷ m) (c ∷ t) hn hm rn rm = absurd (slash_not b c (has_no_slash m) (and_parts (b == c) (reach m t) rm).0 rn hm)
equal_reached (a ∷ n) m [] hn hm rn rm = absurd (false≢true rn)
equal_reached (a ∷ n) [] (c ∷ t) hn hm rn rm = absurd (slash_not a c (has_no_slash n) (and_parts (a == c) (reach n t) rn).0 rm hn)
equal_reached (a ∷ n) (b ∷ m) (c ∷ t) hn hm rn rm =
    let first = and_parts (a == c) (reach n t) rn in
    let second = and_parts (b == c) (reach m t) rm in
    let rest = equal_reached n m t (and_parts (not (a == byte "/")) (has_no_slash n) hn).1 (and_parts (not (b == byte "/")) (has_no_slash m) hm).1 first.1 second.1 in
    let head : a ≡ b = eqb-true a c first.0 ∙ sym (eqb-true b c second.0) in
    λ i. head i ∷ rest i

abbrev HaveNoSlash : List (List ℕ) → Type 0
HaveNoSlash names = AllByRecursion (λ n. IsTrue (has_no_slash n)) names

-- if one name reaches a path, the others do not
none_else : (n t : List ℕ) → IsTrue (has_no_slash n) → reach n t ≡ true → (names : List (List ℕ)) → HaveNoSlash names → AllByRecursion (λ m. bytes_eq n m ≡ false) names → count (λ m. reach m t) names ≡ 0
none_else n t hn rn [] all apart = refl
none_else n t hn rn (m ∷ ms) (hm, all) (other, apart) = omega (arith, ap once (at (reach m t) refl), none_else n t hn rn ms all apart)
  where
    at : (b : Bool) → reach m t ≡ b → reach m t ≡ false
    at false is = is
    at true is = absurd (false≢true (sym other ∙ (bytes_eq-Decides n m).1 (equal_reached n m t hn hm rn is)))

-- of the names of entries at most one reaches a path
one_reaches : (t : List ℕ) (names : List (List ℕ)) → HaveNoSlash names → AreDistinct names → count (λ n. reach n t) names ≤ 1
unfolding IsDistinct
one_reaches t [] all distinct = omega arith
one_reaches t (n ∷ ns) (hn, all) (apart, distinct) = at (reach n t) refl (one_reaches t ns all distinct)
  where
    at : (b : Bool) → reach n t ≡ b → count (λ m. reach m t) ns ≤ 1 → once (reach n t) + count (λ m. reach m t) ns ≤ 1
    at true is rest = omega (arith, ap once is, none_else n t hn is ns all apart)
    at false is rest = omega (arith, ap once is, rest)

-- the names of the root
at_top : (root q : List ℕ) (names : List (List ℕ)) → HaveNoSlash names → AreDistinct names → count (λ n. reach (root ++ n) q) names ≤ 1
at_top [] q names all distinct = one_reaches q names all distinct
at_top (a ∷ root) [] names all distinct = omega (arith, count_none (λ n. reach ((a ∷ root) ++ n) []) (λ n. refl) names)
at_top (a ∷ root) (c ∷ q) names all distinct = at (a == c) (at_top root q names all distinct)
  where
    at : (b : Bool) → count (λ n. reach (root ++ n) q) names ≤ 1 → count (λ n. b && reach (root ++ n) q) names ≤ 1
    at true rest = rest
    at false rest = omega (arith, count_none (λ n. false && reach (root ++ n) q) (λ n. refl) names)

-- the names of a directory reach only what is below it, and each path once
under : (p q : List ℕ) (names : List (List ℕ)) → HaveNoSlash names → AreDistinct names → count (λ n. reach ((p ++ (byte "/" ∷ [])) ++ n) q) names ≤ once (below p q)
under [] [] names all distinct = omega (arith, count_none (λ n. reach (byte "/" ∷ n) []) (λ n. refl) names)
under [] (c ∷ q) names all distinct = at (byte "/" == c)
  where
    at : (b : Bool) → count (λ n. b && reach n q) names ≤ once b
    at true = one_reaches q names all distinct
    at false = omega (arith, count_none (λ n. false && reach n q) (λ n. refl) names)
under (a ∷ p) [] names all distinct = omega (arith, count_none (λ n. reach (((a ∷ p) ++ (byte "/" ∷ [])) ++ n) []) (λ n. refl) names)
under (a ∷ p) (c ∷ q) names all distinct = at (a == c) (under p q names all distinct)
  where
    at : (b : Bool) → count (λ n. reach ((p ++ (byte "/" ∷ [])) ++ n) q) names ≤ once (below p q)
        → count (λ n. b && reach ((p ++ (byte "/" ∷ [])) ++ n) q) names ≤ once (b && below p q)
    at true rest = rest
    at false rest = omega (arith, count_none (λ n. false && reach ((p ++ (byte "/" ∷ [])) ++ n) q) (λ n. refl) names)

no_slash : (name : List ℕ) → IsTrue (is_entry name) → IsTrue (has_no_slash name)
no_slash name is = (and_parts _ (has_no_slash name) is).1

have_no_slash : (names : List (List ℕ)) → AllByRecursion (λ n. IsTrue (is_entry n)) names → HaveNoSlash names
have_no_slash [] all = tt
have_no_slash (n ∷ ns) (one, all) = (no_slash n one, have_no_slash ns all)

slashless : (names : List (List ℕ)) → AreEntries names → HaveNoSlash names
slashless names entries = have_no_slash names (recursion_from_All (λ n. IsTrue (is_entry n)) names entries.0)

-- how many of a directory's names reach a path, or wait above it
abbrev counted : List ℕ → DirectoryData → ℕ
counted q d = count (λ n. reach (d.path ++ n) q) d.left + count (λ n. below (d.path ++ n) q) d.waiting

-- how many rows have a path
abbrev listed : List ℕ → List ℕ → List SeenData → ℕ
listed root q rows = count (λ row. same (root ++ row.name) q) rows

abbrev all_of : List ℕ → List ℕ → WalkData → ℕ
all_of root q w = listed root q w.rows + (total (counted q) w.above + counted q w.here)

-- a look at a path below the root adds no more than the path itself, and what is below it if the walk enters it
look_adds : (says : GivesStat) (root : List ℕ) (part : Part) (rest path q : List ℕ) (rows : List SeenData) (enters : Bool) → path ≡ root ++ rest → IsLooked says (length root) part path rows enters
    → listed root q rows + once (enters && below path q) ≤ once (reach path q)
look_adds says root part rest path q rows enters is (inl (over, none, not)) =
    omega (arith, ap (listed root q) none, ap (λ b. once (b && below path q)) not)
look_adds says root part rest path q rows enters is (inr (stat, told, are, entered)) =
    omega (arith, ap (listed root q) are, file (is_in part (name_of_path (length root) path)), reach_is path q, most enters)
  where
    most : (b : Bool) → once (b && below path q) ≤ once (below path q)
    most true = omega arith
    most false = omega arith

    whole : root ++ name_of_path (length root) path ≡ path
    whole = ap (λ p. root ++ p) (front_rest path root rest is) ∙ sym is

    file : (b : Bool) → listed root q (if b then row_with_stat (name_of_path (length root) path) stat ∷ [] else []) ≤ once (same path q)
    file true = omega (arith, ap (λ p. once (same p q)) whole)
    file false = omega arith

-- a step adds no path
step_adds_none : (says : GivesStat) (has : Has) (root : List ℕ) (part : Part) (before after : WalkData) → Sound says root part before → IsStep says has (length root) part before after → (q : List ℕ) → all_of root q after ≤ all_of root q before
step_adds_none says has root part before after (here, above, rows) (inl (name, left, added, enters, next, look, is)) q =
    subst (λ (w : WalkData). all_of root q w ≤ all_of root q before) (sym is)
    (omega (
      arith,
      count-append (λ row. same (root ++ row.name) q) before.rows added,
      ap (count (λ n. reach (before.here.path ++ n) q)) next,
      count-append (λ n. reach (before.here.path ++ n) q) left (name ∷ []),
      waits enters,
      look_adds says root part (here.0 ++ name) (before.here.path ++ name) q added enters
          (ap (λ p. p ++ name) here.1 ∙ append_assoc root here.0 name) look,
    ))
  where
    waits : (b : Bool) → count (λ n. below (before.here.path ++ n) q) (if b then before.here.waiting ++ (name ∷ []) else before.here.waiting)
        ≡ count (λ n. below (before.here.path ++ n) q) before.here.waiting + once (b && below (before.here.path ++ name) q)
    waits true = omega (arith, count-append (λ n. below (before.here.path ++ n) q) before.here.waiting (name ∷ []))
    waits false = omega arith
step_adds_none says has root part before after sound (inr (inl (name, waiting, names, next, read, is))) q =
    subst (λ (w : WalkData). all_of root q w ≤ all_of root q before) (sym is)
    (omega (
      arith,
      total-append (counted q) before.above (record before.here { waiting = waiting } ∷ []),
      ap (count (λ n. below (before.here.path ++ n) q)) next,
      count-append (λ n. below (before.here.path ++ n) q) waiting (name ∷ []),
      few read,
    ))
  where
    few : HasEntries has (before.here.path ++ name) names
        → count (λ n. reach (((before.here.path ++ name) ++ (byte "/" ∷ [])) ++ n) q) names ≤ once (below (before.here.path ++ name) q)
    few (inl gives) =
        let entries = read_entries has (before.here.path ++ name) names gives in
        under (before.here.path ++ name) q names (slashless names entries) entries.1
    few (inr (none, told)) = omega (arith, ap (count (λ n. reach (((before.here.path ++ name) ++ (byte "/" ∷ [])) ++ n) q)) none)
step_adds_none says has root part before after sound (inr (inr ((none, still), up, kept))) q =
    omega (
      arith,
      ap (listed root q) kept,
      ap (total (counted q)) up,
      total-append (counted q) after.above (after.here ∷ []),
    )

steps_add_none : (says : GivesStat) (has : Has) (root : List ℕ) (part : Part) (n : ℕ) (before after : WalkData) → Sound says root part before → AreSteps says has (length root) part n before after
    → Sound says root part after × ((q : List ℕ) → all_of root q after ≤ all_of root q before)
unfolding AreSteps
steps_add_none says has root part zero before after sound is =
    (subst (Sound says root part) (sym is) sound, λ q. omega (arith, ap (all_of root q) is))
steps_add_none says has root part (suc n) before after sound (mid, leads, one) =
    let told = steps_add_none says has root part n before mid sound leads in
    (sound_step says has root part mid after told.0 one, λ q. omega (arith, told.1 q, step_adds_none says has root part mid after told.0 one q))

-- a walk lists each path at most once
once_listed : (says : GivesStat) (has : Has) (root : List ℕ) (part : Part) (rows : List SeenData) → IsWalk says has root part rows → (q : List ℕ) → listed root q rows ≤ 1
once_listed says has root part rows (names, gives, (steps, last, leads, done)) q =
    let entries = read_entries has root names gives in
    let begin : WalkData = record { above = []; here = fresh root names; rows = [] } in
    let end : WalkData = record { above = []; here = last; rows = rows } in
    let all = steps_add_none says has root part steps begin end (([], sym (append-nil root)), All-nil (Below root), All-nil (IsRowOfPath says root part)) leads in
    omega (arith, all.1 q, at_top root q names (slashless names entries) entries.1)

-- rows of which each path is listed at most once have names of their own
none_same : (root name : List ℕ) (rows : List SeenData) → listed root (root ++ name) rows ≡ 0 → AllByRecursion (λ n. bytes_eq name n ≡ false) (map (λ row. row.name) rows)
none_same root name [] none = tt
none_same root name (row ∷ rows) none = (at (bytes_eq name row.name) refl, none_same root name rows (omega (arith, none)))
  where
    at : (b : Bool) → bytes_eq name row.name ≡ b → bytes_eq name row.name ≡ false
    at false is = is
    at true is =
        let name_is : name ≡ row.name = (bytes_eq-Decides name row.name).0 is in
        let here : same (root ++ row.name) (root ++ name) ≡ true = ap (λ n. same (root ++ row.name) (root ++ n)) name_is ∙ same_refl (root ++ row.name) in
        absurd (omega (arith, none, ap once here))

own_names : (root : List ℕ) (rows : List SeenData) → ((name : List ℕ) → listed root (root ++ name) rows ≤ 1) → HaveOwnNames rows
unfolding IsDistinct
own_names root [] few = tt
own_names root (row ∷ rows) few = (
  none_same root row.name rows (omega (arith, few row.name, ap once (same_refl (root ++ row.name)))),
  own_names root rows (λ name. omega (arith, few name)),
)

pub walks_list_once : (says : GivesStat) (has : Has) → WalksListOnce says has
walks_list_once says has root part rows walk = own_names root rows (λ name. once_listed says has root part rows walk (root ++ name))

same_is : (p q : List ℕ) → same p q ≡ true → p ≡ q
same_is [] [] is = refl
same_is [] (c ∷ q) is = absurd (false≢true is)
same_is (a ∷ p) [] is = absurd (false≢true is)
same_is (a ∷ p) (c ∷ q) is =
    let both = and_parts (a == c) (same p q) is in
    let head = eqb-true a c both.0 in
    let rest = same_is p q both.1 in
    λ i. head i ∷ rest i

same_after : (root a b : List ℕ) → same (root ++ a) (root ++ b) ≡ true → a ≡ b
same_after [] a b is = same_is a b is
same_after (c ∷ root) a b is = same_after root a b (and_parts (c == c) (same (root ++ a) (root ++ b)) is).1

-- a walk lists no path of another part
none_outside : (says : GivesStat) (root name : List ℕ) (part : Part) → is_in part name ≡ false → (rows : List SeenData) → AllByRecursion (IsRowOfPath says root part) rows → listed root (root ++ name) rows ≡ 0
none_outside says root name part not [] all = refl
none_outside says root name part not (row ∷ rows) ((stat, told, is, within), all) =
    omega (arith, ap once (at (same (root ++ row.name) (root ++ name)) refl), none_outside says root name part not rows all)
  where
    at : (b : Bool) → same (root ++ row.name) (root ++ name) ≡ b → same (root ++ row.name) (root ++ name) ≡ false
    at false is = is
    at true is = absurd (false≢true (sym not ∙ ap (is_in part) (sym (same_after root row.name name is)) ∙ within))

within_part : (says : GivesStat) (has : Has) (root : List ℕ) (part : Part) (rows : List SeenData) → IsWalk says has root part rows → (name : List ℕ) → listed root (root ++ name) rows ≤ once (is_in part name)
within_part says has root part rows walk name = at (is_in part name) refl
  where
    at : (b : Bool) → is_in part name ≡ b → listed root (root ++ name) rows ≤ once (is_in part name)
    at true is = omega (arith, ap once is, once_listed says has root part rows walk (root ++ name))
    at false is =
        omega (
          arith,
          none_outside says root name part is rows
              (recursion_from_All (IsRowOfPath says root part) rows (rows_are_of_paths says has root part rows walk)),
        )

-- so the walks of several parts list a path as often as parts have its name, at most
within_parts : (says : GivesStat) (has : Has) (root name : List ℕ) (walked : List Rows) → AllByRecursion (λ (rows : Rows). IsWalk says has root rows.piece.part (found_rows rows.found)) walked
    → listed root (root ++ name) (flat_map (λ rows. found_rows rows.found) walked) ≤ count (λ (rows : Rows). is_in rows.piece.part name) walked
within_parts says has root name [] all = omega arith
within_parts says has root name (rows ∷ walked) (one, all) =
    omega (
      arith,
      count-append (λ row. same (root ++ row.name) (root ++ name)) (found_rows rows.found) (flat_map (λ rows. found_rows rows.found) walked),
      within_part says has root rows.piece.part (found_rows rows.found) one name,
      within_parts says has root name walked all,
    )

count_map : {X Y : Type 0} (test : Y → Bool) (f : X → Y) (xs : List X) → count (λ x. test (f x)) xs ≡ count test (map f xs)
count_map test f [] = refl
count_map test f (x ∷ xs) = ap (λ n. once (test (f x)) + n) (count_map test f xs)

count_is : {X : Type 0} (test : X → Bool) (xs : List X) → count test xs ≡ count_by test xs
count_is test [] = refl
count_is test (x ∷ xs) = ap (λ n. once (test x) + n) (count_is test xs) ∙ sym (sum_by-cons (λ y. cond (test y) 1 0) x xs)

pub listings_list_once : (says : GivesStat) (has : Has) → ListingsListOnce says has
listings_list_once says has root rows (path, pieces, of, shared, (walked, walks, parts, is)) =
    subst HaveOwnNames (sym is) (own_names path (flat_map (λ rows. found_rows rows.found) walked) few)
  where
    few : (name : List ℕ) → listed path (path ++ name) (flat_map (λ rows. found_rows rows.found) walked) ≤ 1
    few name =
        let test : Part → Bool = λ part. is_in part name in
        omega (
          arith,
          within_parts says has path name walked (recursion_from_All (λ (rows : Rows). IsWalk says has path rows.piece.part (found_rows rows.found)) walked walks),
          count_map (λ (piece : Piece). is_in piece.part name) (λ (rows : Rows). rows.piece) walked,
          count_map test (λ (piece : Piece). piece.part) (walked_pieces walked),
          ap (count test) parts,
          count_map test (λ (piece : Piece). piece.part) pieces,
          count_is (λ (piece : Piece). is_in piece.part name) pieces,
          shared name,
        )
