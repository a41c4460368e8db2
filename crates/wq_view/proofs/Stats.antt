-- Stats that are tested to be the same are equal.
use Rattle.std.proofs.Common.{◌≡◌, ℕ, true, ◌&&◌, ◌==◌, cond, sym, refl, ap, ◌∙◌}
use Rattle.std.specs.Ordering.{int_eq}
use Rattle.std.proofs.lemmas.Bool.Decides.{Decides-int_eq, Decides-eqb}
use Rattle.std.proofs.lemmas.Bool.{and_parts}
use Rattle.wq_record.specs.declared.kind.Kind.{Kind}
use Rattle.wq_record.specs.declared.kind.Kind.TheVariants.{File, Dir, Link, Block, Char, Fifo, Socket, Door, Unknown}
use Rattle.wq_record.specs.Kind.{letter_of}
use Rattle.wq_record.specs.Seen.{Stat, same_stat}

-- the kind that has a letter
kind_of : ℕ → Kind
kind_of n = cond (n == letter_of File) File (cond (n == letter_of Dir) Dir (cond (n == letter_of Link) Link (cond (n == letter_of Block) Block (cond (n == letter_of Char) Char (cond (n == letter_of Fifo) Fifo (cond (n == letter_of Socket) Socket (cond (n == letter_of Door) Door Unknown)))))))

kind_of-letter_of : (k : Kind) → kind_of (letter_of k) ≡ k
unfolding kind_of
kind_of-letter_of File = refl
kind_of-letter_of Dir = refl
kind_of-letter_of Link = refl
kind_of-letter_of Block = refl
kind_of-letter_of Char = refl
kind_of-letter_of Fifo = refl
kind_of-letter_of Socket = refl
kind_of-letter_of Door = refl
kind_of-letter_of Unknown = refl

-- a letter is that of one kind
pub same_kind : (k l : Kind) → letter_of k ≡ letter_of l → k ≡ l
same_kind k l e = sym (kind_of-letter_of k) ∙ ap kind_of e ∙ kind_of-letter_of l

-- stats that are tested to be the same are equal
pub one_stat : (a b : Stat) → same_stat a b ≡ true → a ≡ b
one_stat a b e =
    let front = and_parts ((letter_of a.kind == letter_of b.kind) && int_eq a.size b.size) (int_eq a.mtime_ms b.mtime_ms) e in
    let parts = and_parts (letter_of a.kind == letter_of b.kind) (int_eq a.size b.size) front.0 in
    let kinds = same_kind a.kind b.kind ((Decides-eqb (letter_of a.kind) (letter_of b.kind)).0 parts.0) in
    let sizes = (Decides-int_eq a.size b.size).0 parts.1 in
    let times = (Decides-int_eq a.mtime_ms b.mtime_ms).0 front.1 in
    λ i. record { kind = kinds i; size = sizes i; mtime_ms = times i }

-- a stat is the same as itself
pub same_stat-itself : (a : Stat) → same_stat a a ≡ true
same_stat-itself a = rw ((Decides-eqb (letter_of a.kind) (letter_of a.kind)).1 refl, (Decides-int_eq a.size a.size).1 refl, (Decides-int_eq a.mtime_ms a.mtime_ms).1 refl) refl
