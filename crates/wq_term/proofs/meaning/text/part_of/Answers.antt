-- No part of a name is longer than the name, whose length the record's type keeps.
use Rattle.std.proofs.Common.{rules, ◌≤◌, IsTrue, length, sym, subst}
use Rattle.wq_record.specs.declared.name.TheConstants.{MAX_NAME}
use Rattle.wq_record.specs.Name.{is_valid_name}
use Rattle.wq_term.specs.declared.expr.Scope.TheVariants.{Basename, Wholename}
use Rattle.wq_term.proofs.Texts.{part_is_short}
use Rattle.wq_term.proofs.meaning.text.part_of.Goals as goal

pub returns-in-Basename-clause-short : goal.returns-in-Basename-clause-short
returns-in-Basename-clause-short c =
    let valid : IsTrue (is_valid_name c.args.file.now.name) = search rules in
    subst (λ part. length part ≤ MAX_NAME) (sym c.basename.ensures) (part_is_short Basename c.args.file.now.name valid)

pub returns-in-Wholename-clause-short : goal.returns-in-Wholename-clause-short
returns-in-Wholename-clause-short c =
    subst (λ part. length part ≤ MAX_NAME) (sym c.as_bytes.ensures.value) (part_is_short Wholename c.file.inside.name c.file.invariant.name)
