use Rattle.idl_term.proofs.ContextMeanings.{context_sound, sound_roots, sound_exact, sound_agrees}
use Rattle.idl_term.proofs.laws.context_law.Goals as goal

pub returns-clause-scope : goal.returns-clause-scope
returns-clause-scope c context is = (context_sound context is).over

pub returns-clause-roots : goal.returns-clause-roots
returns-clause-roots c context is = sound_roots context (context_sound context is)

pub returns-clause-exact : goal.returns-clause-exact
returns-clause-exact c context schedule is fits = sound_exact context schedule (context_sound context is) fits

pub returns-clause-agrees : goal.returns-clause-agrees
returns-clause-agrees c context schedule is fits = sound_agrees context schedule (context_sound context is) fits
