use Rattle.std.proofs.Common.{subst, ◌<◌}
use Rattle.std.proofs.lemmas.List.Elements.{All-from_get_or}
use Rattle.wq_code.specs.Reading.{Gives}
use Rattle.wq_code.proofs.FileLaws.{is_found, found_fits, spellings_are_read_back}
use Rattle.wq_code.proofs.Firsts.{first_files_stay}
use Rattle.wq_code.proofs.file.decode.Goals as goal

pub returns-clause-found : goal.returns-clause-found
returns-clause-found c =
    is_found c.args.bytes.now c.file_of.result
    (All-from_get_or (λ b. b < 256) c.args.bytes.now 0 (λ i within. (c.type_inv.bytes i).fits)) c.file_of.ensures

pub returns-clause-fits : goal.returns-clause-fits
returns-clause-fits c =
    found_fits c.args.bytes.now c.file_of.result
    (is_found c.args.bytes.now c.file_of.result
    (All-from_get_or (λ b. b < 256) c.args.bytes.now 0 (λ i within. (c.type_inv.bytes i).fits)) c.file_of.ensures)

pub returns-clause-only : goal.returns-clause-only
returns-clause-only c = λ raw s.
    subst (Gives (λ read. read) c.file_of.result) (spellings_are_read_back c.args.bytes.now raw s) c.file_of.ensures

pub returns-clause-stays : goal.returns-clause-stays
returns-clause-stays c = λ raw e.
    subst (Gives (λ read. read) c.file_of.result) (first_files_stay c.args.bytes.now raw e) c.file_of.ensures
