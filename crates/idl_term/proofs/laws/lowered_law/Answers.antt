use Rattle.idl_term.proofs.MeaningNames.{fits_sorts}
use Rattle.idl_term.proofs.MeaningTerms.{term_lowered}
use Rattle.idl_term.proofs.laws.lowered_law.Goals as goal

pub returns-clause-made : goal.returns-clause-made
returns-clause-made c scope nodes t made over e = (term_lowered scope nodes t made over e).made

pub returns-clause-value : goal.returns-clause-value
returns-clause-value c scope nodes t made schedule env over sorts agrees e = (term_lowered scope nodes t made over e).says schedule env (fits_sorts _ schedule sorts) agrees
