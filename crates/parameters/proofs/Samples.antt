-- The marked samples of the scope paper that speak of parameter lists, by computation of the definitions (section Sample line traffic).
use mathlib.Core.Path.{refl}
use Rattle.answer.specs.Pieces.{pieces_from, rest_from}
use Rattle.parameters.specs.Parameters.{parameter_in}
use Rattle.parameters.specs.Finding.{numbered, nth, find}
use Rattle.parameters.specs.Claims.{ParameterSamples}

pub parameter_samples : ParameterSamples
unfolding parameter_in find nth numbered pieces_from rest_from
parameter_samples = record { cex = (refl, refl); mnu = refl }
