-- `program-add`, `program-list` and `program-del`, by which the server keeps programs under names:
-- their requests and their replies.
-- Base64 is as in RFC 4648; the rest is this server's own.
use Rattle.std.specs.Prelude.{◌≡◌, ℕ, Bool, ◌&&◌, nat_le, List, length, codes, map}
use Rattle.std.specs.Prelude.{Result, Ok, Err, Vec}
use Rattle.std.specs.declared.alloc.Global.{Global}
use Rattle.base64.specs.GeneralPurpose.{decode_of}
use Rattle.base64.specs.Engines.{standard}
use Rattle.base64.specs.declared.decode.DecodeError.{DecodeError}
use Rattle.serde_json.specs.Data.{Data, boolean, number, string, array, object, Items}
use Rattle.serde_json.specs.Data.{no_members, member, unsigned}
use Rattle.serde_json.specs.View.{items_of}
use Rattle.wq_base.specs.Fault.{or_fault, or_its_fault, unless_fault}
use Rattle.wq_base.specs.Version.{version}
use Rattle.wq_ask.specs.Argument.{RequestData, complete, adds, are_none, one_text, two_texts}
use Rattle.wq_ask.specs.Limit.{max_program_name}
use Rattle.wq_ask.specs.declared.ask.Ask.TheVariants.{OfShelf}
use Rattle.wq_ask.specs.declared.ask.ShelfAsk.TheVariants.{Reads, DeleteProgram}
use Rattle.wq_ask.specs.declared.ask.ShelfRead.TheVariants.{ListPrograms}
use Rattle.wq_ask.specs.declared.refusal.Refusal.{Refusal}
use Rattle.wq_ask.specs.declared.refusal.Refusal.TheVariants.{WrongArguments, BadName}
use Rattle.wq_ask.specs.declared.refusal.Refusal.TheVariants.{NotBase64, NoMemory}

-- whether a text may be the name of a program or of a subscription
abbrev pub is_name : List ℕ → Bool
is_name name = nat_le 1 (length name) && nat_le (length name) max_program_name

-- the server is asked to keep the program of a base64 text under a name
abbrev pub adding : List ℕ × List ℕ → Result RequestData Refusal
adding (name, text) =
    unless_fault BadName (is_name name) (
    or_its_fault (λ _. NotBase64) (decode_of standard text) (λ file.
    Ok (adds name file)))

-- the result is the bytes of a base64 text, or the text is not base64, or memory ran out
abbrev pub DecodesTo : Result (List ℕ) DecodeError → Result (Vec ℕ Global) Refusal → Type 0
DecodesTo said (Ok bytes) = said ≡ Ok bytes.items
DecodesTo said (Err NotBase64) = (error : DecodeError) × (said ≡ Err error)
DecodesTo said (Err NoMemory) = Unit {0}
DecodesTo said (Err _) = ⊥

-- the request of `program-add`
abbrev pub add_request : Items → Result RequestData Refusal
add_request arguments = or_fault WrongArguments (two_texts arguments) adding

-- `program-list` requests the names of the programs
abbrev pub names_request : Items → Result RequestData Refusal
names_request arguments =
    unless_fault WrongArguments (are_none arguments) (Ok (complete (OfShelf (Reads ListPrograms))))

-- `program-del` requests that the server no longer keeps a program
abbrev pub delete_request : Items → Result RequestData Refusal
delete_request arguments =
    or_fault WrongArguments (one_text arguments) (λ name.
    unless_fault BadName (is_name name) (Ok (complete (OfShelf (DeleteProgram name)))))

-- the reply that a program of so many instructions is kept under a name, and whether it replaced
-- one
abbrev pub added_data : List ℕ → ℕ → Bool → Data
added_data name instructions replaced =
    object (member (codes "instructions") (number (unsigned instructions))
    (member (codes "program-add") (string name)
    (member (codes "replaced") (boolean replaced)
    (member (codes "version") (string version) no_members))))

-- the reply with the names of the programs
abbrev pub programs_data : List (List ℕ) → Data
programs_data names =
    object (member (codes "programs") (array (items_of (map string names)))
    (member (codes "version") (string version) no_members))

-- the reply that no program is kept under a name, and whether one was
abbrev pub deleted_data : List ℕ → Bool → Data
deleted_data name deleted =
    object (member (codes "deleted") (boolean deleted)
    (member (codes "program-del") (string name)
    (member (codes "version") (string version) no_members)))
