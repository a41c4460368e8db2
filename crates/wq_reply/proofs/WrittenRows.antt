-- Bytes that are written in parts, of which a writer may take a front.
use Rattle.std.proofs.Common.{◌≡◌, ◌+◌, ◌*◌, ◌++◌, ℕ, List, ◌∷◌, Option, Result, Ok, Err, OnErr, take, drop, length, sym, ap, subst, ◌∙◌, arith, length-append}
use Rattle.std.proofs.lemmas.List.{append_assoc, take-append-drop}
use Rattle.std.specs.Io.KnownBytes.{Appends}
use Rattle.wq_base.specs.Writing.{WritesFront}
use Rattle.wq_base.proofs.Fronts.{appends_then, front_before, front_behind}
use Rattle.wq_eval.specs.Piece.{piece_of}
use Rattle.wq_reply.specs.Long.{WritesSome}
use Rattle.wq_reply.specs.Rows.{data_at, rows_data, rows_text}
use Rattle.wq_reply.specs.declared.rows.Rows.{Rows}
use Rattle.wq_reply.proofs.RowTexts.{data-append, next_rows, rows-append}

-- a front of some bytes, which is not all of them
pub some_of : {E : Type 0} (result : Result (Unit {0}) E) (a b : Option (List ℕ)) (bytes : List ℕ) → OnErr result (WritesFront a b bytes)
    → OnErr result (WritesSome a b bytes)
some_of (Ok done) a b bytes written = tt
some_of (Err fault) a b bytes (front, back, is, short, appends) = (front, back, is, appends)

-- a front of some bytes after others, and then more is left
pub some_behind : (a b c : Option (List ℕ)) (xs ys zs : List ℕ) → Appends a b xs → WritesSome b c ys → WritesSome a c ((xs ++ ys) ++ zs)
some_behind a b c xs ys zs whole (front, back, is, appends) = (
  xs ++ front,
  back ++ zs,
  append_assoc xs ys zs ∙ ap (λ l. xs ++ (l ++ zs)) is
      ∙ ap (λ l. xs ++ l) (append_assoc front back zs) ∙ sym (append_assoc xs front (back ++ zs)),
  appends_then a b c xs front whole appends,
)

-- a front of some bytes after others, where more bytes are left at the end
pub front_within : (a b c : Option (List ℕ)) (xs ys : List ℕ) (z : ℕ) (zs : List ℕ) → Appends a b xs → WritesSome b c ys
    → WritesFront a c (xs ++ (ys ++ z ∷ zs))
front_within a b c xs ys z zs whole (front, back, is, appends) = (
  xs ++ front,
  back ++ z ∷ zs,
  ap (λ l. xs ++ (l ++ z ∷ zs)) is ∙ ap (λ l. xs ++ l) (append_assoc front back (z ∷ zs)) ∙ sym (append_assoc xs front (back ++ z ∷ zs)),
  omega (
    arith,
    length-append xs front,
    length-append xs (ys ++ z ∷ zs),
    length-append ys (z ∷ zs),
    ap length is,
    length-append front back,
  ),
  appends_then a b c xs front whole appends,
)

module _ (rows : Rows) (number : ℕ) (a b c : Option (List ℕ)) where
  -- the rows before this piece
  abbrev pub before : List ℕ
  before = rows_text (data_at rows (take (number * rows.size) rows.places.now))

  -- the rows of this piece
  abbrev pub these : List ℕ
  these = rows_text (data_at rows (piece_of rows.size rows.places.now number))

  -- the rows after this piece
  abbrev pub after : List ℕ
  after = rows_text (data_at rows (drop ((number + 1) * rows.size) rows.places.now))

  -- one more piece was written
  pub piece_more : Appends a b before → Appends b c these
      → Appends a c (rows_text (data_at rows (take ((number + 1) * rows.size) rows.places.now)))
  piece_more whole one = subst (Appends a c) (next_rows rows number) (appends_then a b c before these whole one)

  -- all rows
  in_parts : (before ++ these) ++ after ≡ rows_text (rows_data rows)
  in_parts =
      let cut = (number + 1) * rows.size in
      ap (λ l. l ++ after) (next_rows rows number)
      ∙ sym (rows-append (data_at rows (take cut rows.places.now)) (data_at rows (drop cut rows.places.now)))
      ∙ ap rows_text (sym (data-append rows (take cut rows.places.now) (drop cut rows.places.now)))
      ∙ ap (λ l. rows_text (data_at rows l)) (take-append-drop cut rows.places.now)

  -- a front of one more piece was
  pub piece_within : Appends a b before → WritesSome b c these → WritesSome a c (rows_text (rows_data rows))
  piece_within whole some = subst (WritesSome a c) in_parts (some_behind a b c before these after whole some)

-- a long reply and its newline
line_parts : (text head rows close nl : List ℕ) → text ≡ head ++ (rows ++ close) → head ++ (rows ++ (close ++ nl)) ≡ text ++ nl
line_parts text head rows close nl is =
    ap (λ l. head ++ l) (sym (append_assoc rows close nl)) ∙ sym (append_assoc head (rows ++ close) nl) ∙ ap (λ l. l ++ nl) (sym is)

module _ (a b c d : Option (List ℕ)) (text head rows close nl : List ℕ) (is : text ≡ head ++ (rows ++ close)) (headed : Appends a b head) where
  -- the line was written whole
  pub line_done : Appends b c rows → Appends c d (close ++ nl) → Appends a d (text ++ nl)
  line_done second third =
      subst (Appends a d) (line_parts text head rows close nl is)
      (appends_then a b d head (rows ++ (close ++ nl)) headed (appends_then b c d rows (close ++ nl) second third))

  -- a front of its last bytes was written
  pub line_ends : Appends b c rows → WritesFront c d (close ++ nl) → WritesFront a d (text ++ nl)
  line_ends second third =
      subst (WritesFront a d) (line_parts text head rows close nl is)
      (front_behind a b d head (rows ++ (close ++ nl)) headed (front_behind b c d rows (close ++ nl) second third))

-- a front of its rows was written, after which it has a byte
pub line_within : (a b c : Option (List ℕ)) (text head rows close nl : List ℕ) (z : ℕ) → text ≡ head ++ (rows ++ z ∷ close) → Appends a b head
    → WritesSome b c rows → WritesFront a c (text ++ nl)
line_within a b c text head rows close nl z is headed some =
    subst (WritesFront a c) (line_parts text head rows (z ∷ close) nl is) (front_within a b c head rows z (close ++ nl) headed some)

-- a front of its first bytes was written
pub line_begins : (a b : Option (List ℕ)) (text head rows close nl : List ℕ) → text ≡ head ++ (rows ++ close) → WritesFront a b head
    → WritesFront a b (text ++ nl)
line_begins a b text head rows close nl is front =
    subst (WritesFront a b) (line_parts text head rows close nl is) (front_before a b head (rows ++ (close ++ nl)) front)
