-- The word of `--emit`: what `get_str` reads is what the definition reads.
use Rattle.std.proofs.Common.{◌≡◌, ◌∙◌, Option, Some, None, Bor, refl, ap, codes, option_map}
use Rattle.std.specs.Option.{option_map_or}
use Rattle.clap.specs.Words.{Text, first_value, rows_of}
use Rattle.clap.specs.declared.parser.matches.Found.{Found}
use Rattle.clap.proofs.WalkLemmas.{first_value-rows}
use Rattle.command_line.specs.Lines.{emit_named, emit_of}
use Rattle.command_line.specs.declared.line.Emit.TheVariants.{Plan}

behind : (o : Option (Bor Text)) → option_map_or (λ s. emit_named s.now) o Plan ≡ option_map_or emit_named (option_map (λ s. s.now) o) Plan
behind None = refl
behind (Some s) = refl

pub emit_read : (f : Found) (o : Option (Bor Text)) → option_map (λ s. s.now) o ≡ first_value f (codes "emit")
    → option_map_or (λ s. emit_named s.now) o Plan ≡ emit_of (rows_of f)
emit_read f o e = behind o ∙ ap (λ (t : Option Text). option_map_or emit_named t Plan) (e ∙ first_value-rows f (codes "emit"))
