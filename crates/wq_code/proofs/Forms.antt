-- Fields that are read as they are written, and nothing else: each form of the file, one by one.
use Rattle.std.proofs.Common.{◌≡◌, ℕ, zero, suc, ◌<◌, ◌≤◌, ◌^◌, Bool, true, false, cond, ltb, leb, List, [], ◌∷◌, ◌++◌, length, take, drop, get_or, Result, Ok, Err, refl, sym, ap, subst, ◌∙◌, append_assoc, arith, lit<}
use Rattle.std.specs.Prelude.{ℤ, FitsSigned}
use Rattle.std.specs.List.{All, list_all, flat_map}
use Rattle.std.specs.Int.{w16, w32, w64, from_be_bytes, to_be_bytes, cast_signed, cast_unsigned}
use Rattle.std.proofs.lemmas.Bool.{ltb-false, le-ltb, leb-true, le-leb, ltb-true, and_parts, and_from}
use Rattle.std.proofs.lemmas.List.Sums.{AllPass-from_list_all, list_all-from_AllPass}
use Rattle.std.proofs.lemmas.List.{take_at, drop_at, take-append-drop, length-append, length-take}
use Rattle.std.proofs.lemmas.List.Concat.{flat_map-cons}
use Rattle.std.proofs.lemmas.List.Elements.{All-nil, All-cons, All-head, All-tail, All-weaker}
use Rattle.std.proofs.lemmas.Nat.{be_bytes_2, be_bytes_4, be_bytes_8, from_be_bytes-to_be_bytes_2, from_be_bytes-to_be_bytes_4, from_be_bytes-to_be_bytes_8}
use Rattle.std.proofs.lemmas.Int.{of_z-to_z, to_z-of_z}
use Rattle.std.proofs.Math.Facts.{sfits_to_z, Fits-of_z}
use Rattle.wq_code.specs.Limit.{max_constant_text, max_entries, max_entries_in, room_in}
use Rattle.wq_code.specs.Fits.{is_short_text, is_list, is_pattern, is_pattern_set}
use Rattle.wq_glob.specs.Pattern.{PatternData}
use Rattle.wq_glob.specs.declared.flag.Flags.{Flags}
use Rattle.wq_code.specs.declared.fault.FileFault.{FileFault}
use Rattle.wq_code.specs.declared.fault.FileFault.TheVariants.{CutShort, OverLimit, BadOperand}
use Rattle.wq_code.specs.Reading.{◌>>=◌, Reader, bytes_at, many_at, short_at, long_at, wide_at, entries_at, count_at, number_at, text_at, list_at, flags_in, pattern_at, set_at}
use Rattle.wq_code.specs.Spelling.{short, long, wide, number, text, entries, flags_byte, pattern, set, AreBytes}
use Rattle.wq_code.specs.declared.version.Version.{Version}
use Rattle.wq_code.specs.declared.version.Version.TheVariants.{First, Second}

-- the value of a field that did not fail, and the bytes that were read of it
pub bind_ok : {A B : Type 0} (read : Result A FileFault) (next : A → Result B FileFault) (y : B)
    → (read >>= next) ≡ Ok y → (x : A) × (read ≡ Ok x) × (next x ≡ Ok y)
bind_ok (Ok x) next y e = (x, refl, e)
bind_ok (Err fault) next y e = absurd cc

-- the same, for a goal that follows
pub bind_then : {A B P : Type 0} (read : Result A FileFault) (next : A → Result B FileFault) (y : B)
    → (read >>= next) ≡ Ok y → ((x : A) → read ≡ Ok x → next x ≡ Ok y → P) → P
bind_then (Ok x) next y e goal = goal x refl e
bind_then (Err fault) next y e goal = absurd cc

-- a test that did not fail
pub guard_ok : {A : Type 0} (b : Bool) (fault : FileFault) (x y : A) → cond b (Err fault) (Ok x) ≡ Ok y → (b ≡ false) × (x ≡ y)
guard_ok true fault x y e = absurd cc
guard_ok false fault x y e = (refl, cc)

-- a test that had to pass
pub passed_ok : {A : Type 0} (b : Bool) (fault : FileFault) (x y : A) → cond b (Ok x) (Err fault) ≡ Ok y → (b ≡ true) × (x ≡ y)
passed_ok true fault x y e = (refl, cc)
passed_ok false fault x y e = absurd cc

abbrev done : {A : Type 0} → A → Result A FileFault
done x = Ok x

-- two values that were read are one
pub ok_is : {A : Type 0} (x y : A) → done x ≡ done y → x ≡ y
ok_is x y e = cc

-- the rest after a front of bytes are bytes
behind : (front rest : List ℕ) → AreBytes (front ++ rest) → AreBytes rest
behind [] rest h = h
behind (b ∷ front) rest h = behind front rest (All-tail (λ b. b < 256) b (front ++ rest) h)

-- the rest of some bytes after a front of them is bytes
pub rest_are_bytes : (bytes front rest : List ℕ) → AreBytes bytes → bytes ≡ front ++ rest → AreBytes rest
rest_are_bytes bytes front rest h e = behind front rest (subst AreBytes e h)

-- a front of bytes are bytes
before : (front rest : List ℕ) → AreBytes (front ++ rest) → AreBytes front
before [] rest h = All-nil (λ b. b < 256)
before (b ∷ front) rest h =
    All-cons (λ b. b < 256) b front (All-head (λ b. b < 256) b (front ++ rest) h)
    (before front rest (All-tail (λ b. b < 256) b (front ++ rest) h))

-- a front of some bytes is bytes
pub front_are_bytes : (bytes front rest : List ℕ) → AreBytes bytes → bytes ≡ front ++ rest → AreBytes front
front_are_bytes bytes front rest h e = before front rest (subst AreBytes e h)

-- a field is read as it is written, with a good value, and nothing else is read
pub record IsForm {A : Type 0} (field : Reader A) (written : A → List ℕ) (Good : A → Type 0) : Type 0 where
  pub takes : (bytes : List ℕ) (x : A × List ℕ) → AreBytes bytes → field bytes ≡ Ok x
      → (bytes ≡ written x.0 ++ x.1) × Good x.0
  pub again : (a : A) (rest : List ℕ) → Good a → field (written a ++ rest) ≡ Ok (a, rest)

-- so many bytes
pub bytes_at-takes : (n : ℕ) (bytes : List ℕ) (x : List ℕ × List ℕ) → bytes_at n bytes ≡ Ok x
    → (bytes ≡ x.0 ++ x.1) × (length x.0 ≡ n)
unfolding bytes_at
bytes_at-takes n bytes x e =
    let g = guard_ok (ltb (length bytes) n) CutShort (take n bytes, drop n bytes) x e in
    let long : n ≤ length bytes = ltb-false _ _ g.0 in
    subst (λ (y : List ℕ × List ℕ). (bytes ≡ y.0 ++ y.1) × (length y.0 ≡ n)) g.1
    (sym (take-append-drop n bytes), omega (arith, length-take n bytes))

-- so many bytes are read again, whatever follows
pub bytes_at-again : (n : ℕ) (front rest : List ℕ) → length front ≡ n → bytes_at n (front ++ rest) ≡ Ok (front, rest)
unfolding bytes_at
bytes_at-again n front rest len =
    let long : ltb (length (front ++ rest)) n ≡ false = le-ltb _ _ (omega (arith, length-append front rest)) in
    rw (long, take_at front rest n len, drop_at front rest n len) refl

-- a byte of bytes, at any place
byte_below : (bytes : List ℕ) → AreBytes bytes → (i : ℕ) → get_or bytes i 0 < 256
byte_below [] h i = omega arith
byte_below (b ∷ bytes) h zero = All-head (λ b. b < 256) b bytes h
byte_below (b ∷ bytes) h (suc i) = byte_below bytes (All-tail (λ b. b < 256) b bytes h) i

-- a number of two bytes
pub short-form : IsForm short_at short (λ n. n < 2 ^ 16)
unfolding short_at
short-form = record {
  takes = λ bytes x fits e.
      let b = bind_ok (bytes_at 2 bytes) _ x e in
      let t = bytes_at-takes 2 bytes b.0 b.1 in
      let below = byte_below b.0.0 (front_are_bytes bytes b.0.0 b.0.1 fits t.0) in
      let back : short (from_be_bytes w16 b.0.0) ≡ b.0.0 = be_bytes_2 b.0.0 _ t.1 below refl in
      subst (λ (y : ℕ × List ℕ). (bytes ≡ short y.0 ++ y.1) × (y.0 < 2 ^ 16)) (ok_is _ x b.2)
      (t.0 ∙ ap (λ (front : List ℕ). front ++ b.0.1) (sym back), omega (arith, below 0, below 1));
  again = λ n rest lt. rw (bytes_at-again 2 (short n) rest refl, from_be_bytes-to_be_bytes_2 n lt) refl;
}

-- a number of four bytes
pub long-form : IsForm long_at long (λ n. n < 2 ^ 32)
unfolding long_at
long-form = record {
  takes = λ bytes x fits e.
      let b = bind_ok (bytes_at 4 bytes) _ x e in
      let t = bytes_at-takes 4 bytes b.0 b.1 in
      let below = byte_below b.0.0 (front_are_bytes bytes b.0.0 b.0.1 fits t.0) in
      let back : long (from_be_bytes w32 b.0.0) ≡ b.0.0 = be_bytes_4 b.0.0 _ t.1 below refl in
      subst (λ (y : ℕ × List ℕ). (bytes ≡ long y.0 ++ y.1) × (y.0 < 2 ^ 32)) (ok_is _ x b.2)
      (t.0 ∙ ap (λ (front : List ℕ). front ++ b.0.1) (sym back), omega (arith, below 0, below 1, below 2, below 3));
  again = λ n rest lt. rw (bytes_at-again 4 (long n) rest refl, from_be_bytes-to_be_bytes_4 n lt) refl;
}

-- a number as wide as the version's
pub wide-form : (version : Version) → IsForm (wide_at version) (wide version) (λ n. n < room_in version)
wide-form First = record { takes = short-form.takes; again = short-form.again }
wide-form Second = record { takes = long-form.takes; again = long-form.again }

-- a count with its limit
pub count-form : (number : Reader ℕ) (written : ℕ → List ℕ) (room : ℕ) → IsForm number written (λ n. n < room)
    → (limit : ℕ) → limit < room → IsForm (count_at number limit) written (λ n. n ≤ limit)
unfolding count_at
count-form number written room form limit small = record {
  takes = λ bytes x fits e.
      let b = bind_ok (number bytes) _ x e in
      let t = form.takes bytes b.0 fits b.1 in
      let g = passed_ok (leb b.0.0 limit) OverLimit b.0 x b.2 in
      subst (λ (y : ℕ × List ℕ). (bytes ≡ written y.0 ++ y.1) × (y.0 ≤ limit)) g.1 (t.0, leb-true _ _ g.0);
  again = λ n rest le. rw (form.again n rest (omega arith), le-leb n limit le) refl;
}

-- the length of a text
length-form : IsForm (count_at short_at max_constant_text) short (λ n. n ≤ max_constant_text)
length-form = count-form short_at short (2 ^ 16) short-form max_constant_text (lit< tt)

-- how many entries a list has
entries-form : (version : Version) → IsForm (entries_at version) (wide version) (λ n. n ≤ max_entries_in version)
entries-form First = record {
  takes = λ bytes x fits e. let t = short-form.takes bytes x fits e in (t.0, omega (arith, t.1));
  again = λ n rest le. short-form.again n rest (omega (arith, le));
}
entries-form Second = count-form long_at long (2 ^ 32) long-form max_entries (lit< tt)

-- a number of eight bytes
pub number-form : IsForm number_at number (λ n. FitsSigned w64 n)
unfolding number_at
number-form = record {
  takes = λ bytes x fits e.
      let b = bind_ok (bytes_at 8 bytes) _ x e in
      let t = bytes_at-takes 8 bytes b.0 b.1 in
      let below = byte_below b.0.0 (front_are_bytes bytes b.0.0 b.0.1 fits t.0) in
      let n : ℕ = from_be_bytes w64 b.0.0 in
      let small : n < 2 ^ 64 = omega (arith, below 0, below 1, below 2, below 3, below 4, below 5, below 6, below 7) in
      let back : number (cast_signed w64 n) ≡ b.0.0 =
      ap (to_be_bytes w64) (of_z-to_z w64 n small) ∙ be_bytes_8 b.0.0 _ t.1 below refl in
      subst (λ (y : ℤ × List ℕ). (bytes ≡ number y.0 ++ y.1) × FitsSigned w64 y.0) (ok_is _ x b.2)
      (t.0 ∙ ap (λ (front : List ℕ). front ++ b.0.1) (sym back), sfits_to_z (record { fits = small }));
  again = λ n rest h.
      rw (bytes_at-again 8 (number n) rest refl, from_be_bytes-to_be_bytes_8 (cast_unsigned w64 n) (Fits-of_z h).fits, to_z-of_z w64 n h) refl;
}

-- a text
abbrev pub IsText : List ℕ → Type 0
IsText bytes = (is_short_text bytes ≡ true) × AreBytes bytes

-- a text is read as it is written
pub text-form : IsForm text_at text IsText
unfolding text_at
text-form = record {
  takes = λ bytes x fits e.
      let b = bind_ok (count_at short_at max_constant_text bytes) _ x e in
      let t = length-form.takes bytes b.0 fits b.1 in
      let s = bytes_at-takes b.0.0 b.0.1 x b.2 in
      let rest = rest_are_bytes bytes (short b.0.0) b.0.1 fits t.0 in
      let whole : bytes ≡ text x.0 ++ x.1 =
      t.0 ∙ ap (λ (n : ℕ). short n ++ b.0.1) (sym s.1) ∙ ap (λ (r : List ℕ). short (length x.0) ++ r) s.0 in
      (whole, (le-leb _ _ (omega (arith, s.1, t.1)), front_are_bytes b.0.1 x.0 x.1 rest s.0));
  again = λ a rest h.
      rw (length-form.again (length a) (a ++ rest) (leb-true _ _ h.0)) (bytes_at-again (length a) a rest refl);
}

-- the rest after the first field of several
many_takes : {A : Type 0} (field : Reader A) (written : A → List ℕ) (Good : A → Type 0) → IsForm field written Good
    → (n : ℕ) (bytes : List ℕ) (x : List A × List ℕ) → AreBytes bytes → many_at field n bytes ≡ Ok x
    → (bytes ≡ flat_map written x.0 ++ x.1) × ((length x.0 ≡ n) × All Good x.0)
unfolding many_at
many_takes {A} field written Good form zero bytes x fits e =
    subst (λ (y : List A × List ℕ). (bytes ≡ flat_map written y.0 ++ y.1) × ((length y.0 ≡ 0) × All Good y.0)) (ok_is _ x e)
    (refl, (refl, All-nil Good))
many_takes {A} field written Good form (suc n) bytes x fits e =
    let a = bind_ok (field bytes) _ x e in
    let b = bind_ok (many_at field n a.0.1) _ x a.2 in
    let first = form.takes bytes a.0 fits a.1 in
    let others = many_takes field written Good form n a.0.1 b.0 (rest_are_bytes bytes (written a.0.0) a.0.1 fits first.0) b.1 in
    let whole : bytes ≡ flat_map written (a.0.0 ∷ b.0.0) ++ b.0.1 =
    first.0 ∙ ap (λ (r : List ℕ). written a.0.0 ++ r) others.0
    ∙ sym (append_assoc (written a.0.0) (flat_map written b.0.0) b.0.1)
    ∙ ap (λ (r : List ℕ). r ++ b.0.1) (sym (flat_map-cons written a.0.0 b.0.0)) in
    subst (λ (y : List A × List ℕ). (bytes ≡ flat_map written y.0 ++ y.1) × ((length y.0 ≡ suc n) × All Good y.0)) (ok_is _ x b.2)
    (whole, (ap suc others.1.0, All-cons Good a.0.0 b.0.0 first.1 others.1.1))

-- fields of one form are read again, whatever follows
pub many_again : {A : Type 0} (field : Reader A) (written : A → List ℕ) (Good : A → Type 0) → IsForm field written Good
    → (xs : List A) (rest : List ℕ) → All Good xs → many_at field (length xs) (flat_map written xs ++ rest) ≡ Ok (xs, rest)
unfolding many_at
many_again field written Good form [] rest good = refl
many_again field written Good form (x ∷ xs) rest good =
    let regrouped : flat_map written (x ∷ xs) ++ rest ≡ written x ++ (flat_map written xs ++ rest) =
    ap (λ (r : List ℕ). r ++ rest) (flat_map-cons written x xs) ∙ append_assoc (written x) (flat_map written xs) rest in
    ap (many_at field (suc (length xs))) regrouped
    ∙ rw (
      form.again x (flat_map written xs ++ rest) (All-head Good x xs good),
      many_again field written Good form xs rest (All-tail Good x xs good),
    ) refl

-- fields of one form
pub many-form : {A : Type 0} (field : Reader A) (written : A → List ℕ) (Good : A → Type 0) → IsForm field written Good
    → (n : ℕ) → IsForm (many_at field n) (flat_map written) (λ xs. (length xs ≡ n) × All Good xs)
many-form field written Good form n = record {
  takes = many_takes field written Good form n;
  again = λ xs rest good.
      ap (λ (m : ℕ). many_at field m (flat_map written xs ++ rest)) (sym good.0) ∙ many_again field written Good form xs rest good.1;
}

-- all pass two tests
pub all_both : {A : Type 0} (P Q : A → Type 0) (xs : List A) → All P xs → All Q xs → All (λ x. P x × Q x) xs
all_both P Q xs p q k d lt = (p k d lt, q k d lt)

-- a list of texts
abbrev pub IsList : Version → List (List ℕ) → Type 0
IsList version texts = (is_list version texts ≡ true) × All AreBytes texts

-- a list is read as it is written
pub list-form : (version : Version) → IsForm (list_at version) (entries version) (IsList version)
unfolding list_at
list-form version = record {
  takes = λ bytes x fits e.
      let b = bind_ok (entries_at version bytes) _ x e in
      let t = (entries-form version).takes bytes b.0 fits b.1 in
      let rest = rest_are_bytes bytes (wide version b.0.0) b.0.1 fits t.0 in
      let m = (many-form text_at text IsText text-form b.0.0).takes b.0.1 x rest b.2 in
      let whole : bytes ≡ entries version x.0 ++ x.1 =
      t.0 ∙ ap (λ (n : ℕ). wide version n ++ b.0.1) (sym m.1.0)
      ∙ ap (λ (r : List ℕ). wide version (length x.0) ++ r) m.0 ∙ sym (append_assoc (wide version (length x.0)) (flat_map text x.0) x.1) in
      let each : list_all is_short_text x.0 ≡ true =
      list_all-from_AllPass is_short_text x.0 (All-weaker IsText (λ text. is_short_text text ≡ true) (λ text h. h.0) x.0 m.1.1) in
      (whole, (and_from _ _ (le-leb _ _ (omega (arith, m.1.0, t.1))) each, All-weaker IsText AreBytes (λ text h. h.1) x.0 m.1.1));
  again = λ a rest h.
      let limits = and_parts (leb (length a) (max_entries_in version)) (list_all is_short_text a) h.0 in
      let good = all_both (λ text. is_short_text text ≡ true) AreBytes a (AllPass-from_list_all is_short_text a limits.1) h.1 in
      ap (list_at version) (append_assoc (wide version (length a)) (flat_map text a) rest)
      ∙ rw ((entries-form version).again (length a) (flat_map text a ++ rest) (leb-true _ _ limits.0)) (many_again text_at text IsText text-form a rest good);
}

-- the flags of a pattern and the bits that stand for them
bits_back : (bits : ℕ) → bits < 16 → flags_byte (flags_in bits) ≡ bits
bits_back zero h = refl
bits_back (suc zero) h = refl
bits_back (suc (suc zero)) h = refl
bits_back (suc (suc (suc zero))) h = refl
bits_back (suc (suc (suc (suc zero)))) h = refl
bits_back (suc (suc (suc (suc (suc zero))))) h = refl
bits_back (suc (suc (suc (suc (suc (suc zero)))))) h = refl
bits_back (suc (suc (suc (suc (suc (suc (suc zero))))))) h = refl
bits_back (suc (suc (suc (suc (suc (suc (suc (suc n)))))))) h = bits_back_high n (omega arith)
  where
    bits_back_high : (n : ℕ) → n < 8 → flags_byte (flags_in (suc (suc (suc (suc (suc (suc (suc (suc n))))))))) ≡ suc (suc (suc (suc (suc (suc (suc (suc n)))))))
    bits_back_high zero h = refl
    bits_back_high (suc zero) h = refl
    bits_back_high (suc (suc zero)) h = refl
    bits_back_high (suc (suc (suc zero))) h = refl
    bits_back_high (suc (suc (suc (suc zero)))) h = refl
    bits_back_high (suc (suc (suc (suc (suc zero))))) h = refl
    bits_back_high (suc (suc (suc (suc (suc (suc zero)))))) h = refl
    bits_back_high (suc (suc (suc (suc (suc (suc (suc zero))))))) h = refl
    bits_back_high (suc (suc (suc (suc (suc (suc (suc (suc n)))))))) h = absurd (omega arith)

abbrev flags_from : Bool → Bool → Bool → Bool → Flags
flags_from wholename dotfiles noescape fold = record { wholename = wholename; dotfiles = dotfiles; noescape = noescape; fold = fold }

flags_again : (w d n f : Bool) → (flags_in (flags_byte (flags_from w d n f)) ≡ flags_from w d n f) × (ltb (flags_byte (flags_from w d n f)) 16 ≡ true)
flags_again true true true true = (refl, refl)
flags_again true true true false = (refl, refl)
flags_again true true false true = (refl, refl)
flags_again true true false false = (refl, refl)
flags_again true false true true = (refl, refl)
flags_again true false true false = (refl, refl)
flags_again true false false true = (refl, refl)
flags_again true false false false = (refl, refl)
flags_again false true true true = (refl, refl)
flags_again false true true false = (refl, refl)
flags_again false true false true = (refl, refl)
flags_again false true false false = (refl, refl)
flags_again false false true true = (refl, refl)
flags_again false false true false = (refl, refl)
flags_again false false false true = (refl, refl)
flags_again false false false false = (refl, refl)

-- a pattern
abbrev pub IsPattern : PatternData → Type 0
IsPattern p = (is_pattern p ≡ true) × AreBytes p.text

-- the bytes after the first one
pub behind_byte : (b : ℕ) (bytes : List ℕ) → AreBytes (b ∷ bytes) → AreBytes bytes
behind_byte b bytes h = All-tail (λ b. b < 256) b bytes h

pattern_takes : (bytes : List ℕ) (x : PatternData × List ℕ) → AreBytes bytes → pattern_at bytes ≡ Ok x
    → (bytes ≡ pattern x.0 ++ x.1) × IsPattern x.0
unfolding pattern_at
pattern_takes [] x fits e = absurd cc
pattern_takes (bits ∷ []) x fits e =
    let b = bind_ok (cond (ltb bits 16) (Ok (flags_in bits)) (Err BadOperand)) _ x e in absurd (let h = b.2 in cc)
pattern_takes (bits ∷ n ∷ bytes) x fits e =
    let b = bind_ok (cond (ltb bits 16) (Ok (flags_in bits)) (Err BadOperand)) _ x e in
    let g = passed_ok (ltb bits 16) BadOperand (flags_in bits) b.0 b.1 in
    let c = bind_ok (bytes_at n bytes) _ x b.2 in
    let t = bytes_at-takes n bytes c.0 c.1 in
    let after = behind_byte n bytes (behind_byte bits (n ∷ bytes) fits) in
    let small : n < 256 = All-head (λ b. b < 256) n bytes (behind_byte bits (n ∷ bytes) fits) in
    let flags : flags_byte b.0 ≡ bits = ap flags_byte (sym g.1) ∙ bits_back bits (ltb-true bits 16 g.0) in
    let whole : (bits ∷ n ∷ bytes) ≡ flags_byte b.0 ∷ length c.0.0 ∷ c.0.0 ++ c.0.1 =
    rw (flags, t.1) (ap (λ (r : List ℕ). bits ∷ n ∷ r) t.0) in
    subst (λ (y : PatternData × List ℕ). ((bits ∷ n ∷ bytes) ≡ pattern y.0 ++ y.1) × IsPattern y.0) (ok_is _ x c.2)
    (whole, (le-leb _ _ (omega (arith, t.1)), front_are_bytes bytes c.0.0 c.0.1 after t.0))

-- a pattern is read as it is written
pub pattern-form : IsForm pattern_at pattern IsPattern
unfolding pattern_at
pattern-form = record {
  takes = pattern_takes;
  again = λ p rest h.
      let f = flags_again (p.flags).wholename (p.flags).dotfiles (p.flags).noescape (p.flags).fold in
      rw (f.1, f.0, bytes_at-again (length p.text) p.text rest refl) refl;
}

-- a set of patterns
abbrev pub IsSet : List PatternData → Type 0
IsSet patterns = (is_pattern_set patterns ≡ true) × All (λ p. AreBytes p.text) patterns

-- a set is read as it is written
pub set-form : IsForm set_at set IsSet
unfolding set_at
set-form = record {
  takes = λ bytes x fits e.
      let b = bind_ok (count_at long_at max_entries bytes) _ x e in
      let t = (entries-form Second).takes bytes b.0 fits b.1 in
      let rest = rest_are_bytes bytes (long b.0.0) b.0.1 fits t.0 in
      let m = (many-form pattern_at pattern IsPattern pattern-form b.0.0).takes b.0.1 x rest b.2 in
      let whole : bytes ≡ set x.0 ++ x.1 =
      t.0 ∙ ap (λ (n : ℕ). long n ++ b.0.1) (sym m.1.0) ∙ ap (λ (r : List ℕ). long (length x.0) ++ r) m.0
      ∙ sym (append_assoc (long (length x.0)) (flat_map pattern x.0) x.1) in
      let each : list_all is_pattern x.0 ≡ true =
      list_all-from_AllPass is_pattern x.0 (All-weaker IsPattern (λ p. is_pattern p ≡ true) (λ p h. h.0) x.0 m.1.1) in
      (whole, (and_from _ _ (le-leb _ _ (omega (arith, m.1.0, t.1))) each, All-weaker IsPattern (λ p. AreBytes p.text) (λ p h. h.1) x.0 m.1.1));
  again = λ a rest h.
      let limits = and_parts (leb (length a) max_entries) (list_all is_pattern a) h.0 in
      let good = all_both (λ p. is_pattern p ≡ true) (λ p. AreBytes p.text) a (AllPass-from_list_all is_pattern a limits.1) h.1 in
      ap set_at (append_assoc (long (length a)) (flat_map pattern a) rest)
      ∙ rw ((entries-form Second).again (length a) (flat_map pattern a ++ rest) (leb-true _ _ limits.0)) (many_again pattern_at pattern IsPattern pattern-form a rest good);
}
