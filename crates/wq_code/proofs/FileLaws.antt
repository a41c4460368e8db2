-- Laws about program files.
use Rattle.std.proofs.Common.{◌≡◌, ℕ, zero, suc, true, List, [], ◌∷◌, ◌++◌, Result, Ok, Err, refl, sym, ap, subst, ◌∙◌, ◌⊎◌, inl, inr, length, ◌<◌}
use Rattle.std.specs.Prelude.{◌≢◌, IfOk}
use Rattle.std.proofs.lemmas.List.{append-nil}
use Rattle.std.proofs.lemmas.List.Elements.{All-nil, All-append}
use Rattle.wq_code.specs.Reading.{◌>>=◌, Gives, end_at}
use Rattle.wq_code.specs.File.{raw_at, file_at}
use Rattle.wq_code.specs.Fits.{raw_fits}
use Rattle.wq_code.specs.Spelling.{spelling_in, AreBytes, IsSpellingIn, IsSpelling}
use Rattle.wq_code.specs.Law.{FilesAreSpellings, SpellingsAreReadBack, OneSpelling, NoneBeginsAnother, FaultsStay, FrontsAreCutShort, BeginASpelling, EndInAWrongNumber, CutShortAreFronts, EndsAreSpellings, FaultyBeginNone}
use Rattle.wq_code.specs.declared.fault.FileFault.{FileFault}
use Rattle.wq_code.specs.declared.fault.FileFault.TheVariants.{WrongMagic, OtherVersion, CutShort, BytesAfterEnd, UnknownOperation, BadOperand, OverLimit, NoMemory}
use Rattle.wq_code.specs.declared.raw.Raw.{Raw}
use Rattle.wq_code.proofs.Forms.{bind_then, ok_is}
use Rattle.wq_code.proofs.FileForm.{raw_takes, raw_again}
use Rattle.wq_code.proofs.FitsLemmas.{grows}
use Rattle.wq_code.proofs.Steady.{Steady, with_more, raw_steady}
use Rattle.wq_code.proofs.Ends.{Filled, Spoilt, Judged, zeros, zeros_len, zeros_are_bytes}
use Rattle.wq_code.proofs.FileEnds.{raw_judged}

-- nothing was left
ended : (bytes rest : List ℕ) → end_at bytes ≡ Ok rest → bytes ≡ []
ended [] rest e = refl
ended (b ∷ bytes) rest e = absurd cc

-- a spelling with bytes after it is read as its program
spelled : (raw : Raw) (bytes more : List ℕ) → IsSpelling raw bytes → raw_at (bytes ++ more) ≡ Ok (raw, more)
spelled raw bytes more s =
    ap (λ (b : List ℕ). raw_at (b ++ more)) s.1.written ∙ raw_again s.0 raw more (s.1.within_limits, s.1.in_range)

-- a spelling is read back
pub spellings_are_read_back : SpellingsAreReadBack
unfolding file_at
spellings_are_read_back bytes raw s =
    let read : raw_at bytes ≡ Ok (raw, []) = ap raw_at (sym (append-nil bytes)) ∙ spelled raw bytes [] s in rw read refl

-- bytes that are read as a program are its spelling
pub file_is_spelling : (bytes : List ℕ) (raw : Raw) → AreBytes bytes → file_at bytes ≡ Ok raw → IsSpelling raw bytes
unfolding file_at
file_is_spelling bytes raw fits e =
    bind_then (raw_at bytes) _ raw e (λ x ex e.
    bind_then (end_at x.1) _ raw e (λ rest er e.
    let t = raw_takes bytes x fits ex in
    let whole : bytes ≡ spelling_in t.0 x.0 =
    t.1.0 ∙ ap (λ (r : List ℕ). spelling_in t.0 x.0 ++ r) (ended x.1 rest er) ∙ append-nil (spelling_in t.0 x.0) in
    subst (λ (r : Raw). IsSpelling r bytes) (ok_is x.0 raw e)
    (t.0, record { within_limits = t.1.1.0; in_range = t.1.1.1; written = whole })))

-- both of these
pub files_are_spellings : FilesAreSpellings
files_are_spellings bytes raw fits = (file_is_spelling bytes raw fits, spellings_are_read_back bytes raw)

-- each version that can hold a program has one file of it
pub one_spelling : OneSpelling
one_spelling version raw fits range =
    (record { within_limits = fits; in_range = range; written = refl }, λ bytes s. s.written)

-- a spelling that begins another is all of it
pub none_begins_another : NoneBeginsAnother
none_begins_another raw other bytes more s t =
    let first : raw_at (bytes ++ more) ≡ Ok (raw, more) = spelled raw bytes more s in
    let second : raw_at (bytes ++ more) ≡ Ok (other, []) =
    ap raw_at (sym (append-nil (bytes ++ more))) ∙ spelled other (bytes ++ more) [] t in
    let same : (raw, more) ≡ (other, []) = ok_is (raw, more) (other, []) (sym first ∙ second) in
    (ap (λ (x : Raw × List ℕ). x.1) same, ap (λ (x : Raw × List ℕ). x.0) same)

-- a file whose program was read with these bytes after it
abbrev whole_of : Result (Raw × List ℕ) FileFault → Result Raw FileFault
whole_of read = read >>= λ x. end_at x.1 >>= λ _. Ok x.0

stays : (first second : Result (Raw × List ℕ) FileFault) (more : List ℕ) (fault : FileFault) → fault ≢ CutShort
    → Steady (with_more more) first second → whole_of first ≡ Err fault → whole_of second ≡ Err fault
stays (Ok (raw, [])) second more fault other h e = absurd cc
stays (Ok (raw, b ∷ bytes)) second more fault other h e = rw h e
stays (Err CutShort) second more fault other h e = absurd (other cc)
stays (Err WrongMagic) second more fault other h e = rw h e
stays (Err OtherVersion) second more fault other h e = rw h e
stays (Err BytesAfterEnd) second more fault other h e = rw h e
stays (Err UnknownOperation) second more fault other h e = rw h e
stays (Err BadOperand) second more fault other h e = rw h e
stays (Err OverLimit) second more fault other h e = rw h e
stays (Err NoMemory) second more fault other h e = rw h e

-- a fault stays, whatever bytes follow
pub faults_stay : FaultsStay
unfolding file_at
faults_stay bytes more fault other e = stays (raw_at bytes) (raw_at (bytes ++ more)) more fault other (raw_steady bytes more) e

nothing_behind : (xs ys : List ℕ) → [] ≡ xs ++ ys → ys ≡ []
nothing_behind [] ys e = sym e
nothing_behind (x ∷ xs) ys e = absurd cc

cut_short : (read : Result (Raw × List ℕ) FileFault) (raw : Raw) (more : List ℕ) → more ≢ []
    → Steady (with_more more) read (Ok (raw, [])) → read ≡ Err CutShort
cut_short (Ok x) raw more some h =
    absurd (some (nothing_behind x.1 more (ap (λ (y : Raw × List ℕ). y.1) (ok_is (raw, []) (x.0, x.1 ++ more) h))))
cut_short (Err CutShort) raw more some h = refl
cut_short (Err WrongMagic) raw more some h = absurd cc
cut_short (Err OtherVersion) raw more some h = absurd cc
cut_short (Err BytesAfterEnd) raw more some h = absurd cc
cut_short (Err UnknownOperation) raw more some h = absurd cc
cut_short (Err BadOperand) raw more some h = absurd cc
cut_short (Err OverLimit) raw more some h = absurd cc
cut_short (Err NoMemory) raw more some h = absurd cc

-- a front that is not all of a spelling is cut short
pub fronts_are_cut_short : FrontsAreCutShort
unfolding file_at
fronts_are_cut_short raw front more some s =
    let read : raw_at (front ++ more) ≡ Ok (raw, []) =
    ap raw_at (sym (append-nil (front ++ more))) ∙ spelled raw (front ++ more) [] s in
    let cut = cut_short (raw_at front) raw more some (subst (Steady (with_more more) (raw_at front)) read (raw_steady front more)) in
    rw cut refl

-- the bytes that the code read are a spelling
pub is_found : (bytes : List ℕ) (result : Result Raw FileFault) → AreBytes bytes → Gives (λ raw. raw) result (file_at bytes)
    → IfOk result (λ raw. IsSpelling raw bytes)
is_found bytes (Ok raw) fits given = file_is_spelling bytes raw fits given
is_found bytes (Err fault) fits given = tt

-- a program that the code read keeps to the limits
pub found_fits : (bytes : List ℕ) (result : Result Raw FileFault) → IfOk result (λ raw. IsSpelling raw bytes)
    → IfOk result (λ raw. raw_fits raw ≡ true)
found_fits bytes (Ok raw) s = grows s.0 raw s.1.within_limits
found_fits bytes (Err fault) s = tt

-- the bytes that fill a file that was cut short make it a spelling
filled_begins : (bytes : List ℕ) → AreBytes bytes → raw_at bytes ≡ Err CutShort → Filled raw_at bytes → BeginASpelling bytes
filled_begins bytes fits e f =
    let both = All-append (λ b. b < 256) bytes f.0 fits f.1 in
    let t = raw_takes (bytes ++ f.0) (f.2, []) both f.3 in
    (f.2, f.0, some, (t.0, record { within_limits = t.1.1.0; in_range = t.1.1.1; written = t.1.0 ∙ append-nil (spelling_in t.0 f.2) }))
  where
    some : f.0 ≢ []
    some none =
        let whole : raw_at bytes ≡ Ok (f.2, []) =
        ap raw_at (sym (append-nil bytes)) ∙ ap (λ (r : List ℕ). raw_at (bytes ++ r)) (sym none) ∙ f.3 in
        absurd (let same : raw_at bytes ≡ raw_at bytes = refl in cc)

-- a number that is wrong whatever follows has one fault
told_wrong : (fault : FileFault) → (fault ≡ OverLimit) ⊎ (fault ≡ BadOperand) → (fault ≢ BytesAfterEnd) × (fault ≢ CutShort)
told_wrong fault (inl is) = (λ e. absurd cc, λ e. absurd cc)
told_wrong fault (inr is) = (λ e. absurd cc, λ e. absurd cc)

abbrev failed : FileFault → Result Raw FileFault
failed fault = Err fault

err_is : (x y : FileFault) → failed x ≡ failed y → x ≡ y
err_is x y e = cc

spoilt_ends : (bytes : List ℕ) → raw_at bytes ≡ Err CutShort → Spoilt raw_at bytes → EndInAWrongNumber bytes
unfolding file_at
spoilt_ends bytes e s =
    let w = told_wrong s.2 s.3 in
    let cut : file_at bytes ≡ Err CutShort = rw e refl in (
      s.0,
      s.1,
      s.2,
      w.0,
      (λ told. w.1 (err_is s.2 CutShort (sym told ∙ cut))),
      (λ more len small. rw (s.4 more len) refl),
    )

cut_case : (bytes : List ℕ) → AreBytes bytes → (told : Result (Raw × List ℕ) FileFault) → raw_at bytes ≡ told
    → Judged raw_at bytes told → whole_of told ≡ Err CutShort → BeginASpelling bytes ⊎ EndInAWrongNumber bytes
cut_case bytes fits (Ok (raw, [])) e j is = absurd cc
cut_case bytes fits (Ok (raw, b ∷ rest)) e j is = absurd cc
cut_case bytes fits (Err CutShort) e (inl f) is = inl (filled_begins bytes fits e f)
cut_case bytes fits (Err CutShort) e (inr s) is = inr (spoilt_ends bytes e s)
cut_case bytes fits (Err WrongMagic) e j is = absurd cc
cut_case bytes fits (Err OtherVersion) e j is = absurd cc
cut_case bytes fits (Err BytesAfterEnd) e j is = absurd cc
cut_case bytes fits (Err UnknownOperation) e j is = absurd cc
cut_case bytes fits (Err BadOperand) e j is = absurd cc
cut_case bytes fits (Err OverLimit) e j is = absurd cc
cut_case bytes fits (Err NoMemory) e j is = absurd cc

-- bytes after a program
behind_case : (more : List ℕ) → more ≢ [] → (told : Result (Raw × List ℕ) FileFault) (raw : Raw) → told ≡ Ok (raw, more)
    → whole_of told ≡ Err BytesAfterEnd
behind_case [] some told raw is = absurd (some refl)
behind_case (b ∷ more) some told raw is = rw is refl

-- a spelling and more bytes after it
followed : (raw : Raw) (front more : List ℕ) → more ≢ [] → IsSpelling raw front → file_at (front ++ more) ≡ Err BytesAfterEnd
unfolding file_at
followed raw front more some s = behind_case more some (raw_at (front ++ more)) raw (spelled raw front more s)

one_more : (b : ℕ) (more : List ℕ) → b ∷ more ≢ []
one_more b more e = absurd cc

-- a fault that stays is no other one
stays_same : (bytes more : List ℕ) (told fault : FileFault) → told ≢ CutShort → file_at bytes ≡ Err told → file_at bytes ≢ Err fault
    → file_at (bytes ++ more) ≡ Err fault → file_at bytes ≡ Err CutShort
stays_same bytes more told fault other e unsaid after =
    let same : told ≡ fault = err_is told fault (sym (faults_stay bytes more told other e) ∙ after) in
    absurd (unsaid (e ∙ ap failed same))

-- bytes are cut short if they have no such fault, and have it with bytes after them
wrong_case : (bytes more : List ℕ) (fault : FileFault) → more ≢ [] → AreBytes bytes → fault ≢ BytesAfterEnd
    → (told : Result Raw FileFault) → file_at bytes ≡ told → file_at bytes ≢ Err fault → file_at (bytes ++ more) ≡ Err fault
    → file_at bytes ≡ Err CutShort
wrong_case bytes more fault some fits other (Ok raw) e unsaid after =
    absurd (other (err_is fault BytesAfterEnd (sym after ∙ followed raw bytes more some (file_is_spelling bytes raw fits e))))
wrong_case bytes more fault some fits other (Err CutShort) e unsaid after = e
wrong_case bytes more fault some fits other (Err WrongMagic) e unsaid after = stays_same bytes more WrongMagic fault (λ e. absurd cc) e unsaid after
wrong_case bytes more fault some fits other (Err OtherVersion) e unsaid after = stays_same bytes more OtherVersion fault (λ e. absurd cc) e unsaid after
wrong_case bytes more fault some fits other (Err BytesAfterEnd) e unsaid after = stays_same bytes more BytesAfterEnd fault (λ e. absurd cc) e unsaid after
wrong_case bytes more fault some fits other (Err UnknownOperation) e unsaid after = stays_same bytes more UnknownOperation fault (λ e. absurd cc) e unsaid after
wrong_case bytes more fault some fits other (Err BadOperand) e unsaid after = stays_same bytes more BadOperand fault (λ e. absurd cc) e unsaid after
wrong_case bytes more fault some fits other (Err OverLimit) e unsaid after = stays_same bytes more OverLimit fault (λ e. absurd cc) e unsaid after
wrong_case bytes more fault some fits other (Err NoMemory) e unsaid after = stays_same bytes more NoMemory fault (λ e. absurd cc) e unsaid after

-- so many bytes of a number are left, and some are
left_case : (bytes : List ℕ) (left : ℕ) (fault : FileFault) → AreBytes bytes → fault ≢ BytesAfterEnd → file_at bytes ≢ Err fault
    → ((more : List ℕ) → length more ≡ left → AreBytes more → file_at (bytes ++ more) ≡ Err fault) → file_at bytes ≡ Err CutShort
left_case bytes zero fault fits other unsaid later =
    absurd (unsaid (ap file_at (sym (append-nil bytes)) ∙ later [] refl (All-nil (λ b. b < 256))))
left_case bytes (suc n) fault fits other unsaid later =
    wrong_case bytes (zeros (suc n)) fault (one_more 0 (zeros n)) fits other (file_at bytes) refl unsaid
    (later (zeros (suc n)) (zeros_len (suc n)) (zeros_are_bytes (suc n)))

cut_from : (bytes : List ℕ) → AreBytes bytes → BeginASpelling bytes ⊎ EndInAWrongNumber bytes → file_at bytes ≡ Err CutShort
cut_from bytes fits (inl f) = fronts_are_cut_short f.0 bytes f.1 f.2 f.3
cut_from bytes fits (inr w) = left_case bytes w.0 w.2 fits w.3 w.4 w.5

cut_to : (bytes : List ℕ) → AreBytes bytes → file_at bytes ≡ Err CutShort → BeginASpelling bytes ⊎ EndInAWrongNumber bytes
unfolding file_at
cut_to bytes fits e = cut_case bytes fits (raw_at bytes) refl (raw_judged bytes fits) e

-- bytes that are cut short, and no others
pub cut_short_are_fronts : CutShortAreFronts
cut_short_are_fronts bytes fits = (cut_to bytes fits, cut_from bytes fits)

-- a front of some bytes that is a spelling
abbrev HasASpelling : List ℕ → Type 0
HasASpelling bytes =
    (raw : Raw) × (front : List ℕ) × (more : List ℕ) × (more ≢ []) × IsSpelling raw front × (bytes ≡ front ++ more)

after_case : (bytes : List ℕ) → AreBytes bytes → (told : Result (Raw × List ℕ) FileFault) → raw_at bytes ≡ told
    → Judged raw_at bytes told → whole_of told ≡ Err BytesAfterEnd → HasASpelling bytes
after_case bytes fits (Ok (raw, [])) e j is = absurd cc
after_case bytes fits (Ok (raw, b ∷ more)) e j is =
    let t = raw_takes bytes (raw, b ∷ more) fits e in
    let spelt : IsSpellingIn t.0 raw (spelling_in t.0 raw) = record { within_limits = t.1.1.0; in_range = t.1.1.1; written = refl } in
    (raw, spelling_in t.0 raw, b ∷ more, (λ none. absurd cc), (t.0, spelt), t.1.0)
after_case bytes fits (Err CutShort) e j is = absurd cc
after_case bytes fits (Err WrongMagic) e j is = absurd cc
after_case bytes fits (Err OtherVersion) e j is = absurd cc
after_case bytes fits (Err BytesAfterEnd) e j is = absurd j
after_case bytes fits (Err UnknownOperation) e j is = absurd cc
after_case bytes fits (Err BadOperand) e j is = absurd cc
after_case bytes fits (Err OverLimit) e j is = absurd cc
after_case bytes fits (Err NoMemory) e j is = absurd cc

after_to : (bytes : List ℕ) → AreBytes bytes → file_at bytes ≡ Err BytesAfterEnd → HasASpelling bytes
unfolding file_at
after_to bytes fits e = after_case bytes fits (raw_at bytes) refl (raw_judged bytes fits) e

-- bytes after a spelling, and no others
pub ends_are_spellings : EndsAreSpellings
ends_are_spellings bytes fits =
    (after_to bytes fits, λ h. ap file_at h.5 ∙ followed h.0 h.1 h.2 h.3 h.4)

-- bytes with a fault begin no spelling
pub faulty_begin_none : FaultyBeginNone
faulty_begin_none bytes more fault raw other e s =
    let stays = faults_stay bytes more fault other e in
    let read = spellings_are_read_back (bytes ++ more) raw s in
    absurd (let same : file_at (bytes ++ more) ≡ file_at (bytes ++ more) = refl in cc)
