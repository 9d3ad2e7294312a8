-- The marked samples of the scope paper on data objects, by computation of the definitions (section Sample line traffic).
use mathlib.Core.Path.{refl}
use Rattle.objects.specs.Tag.{tag_size, size_of_two}
use Rattle.objects.specs.LengthForm.{form_at, after81, after82}
use Rattle.objects.specs.Object.{object_refusal, object_size, read_of}
use Rattle.objects.specs.Claims.{ObjectSamples}

pub object_samples : ObjectSamples
unfolding tag_size size_of_two form_at after81 after82 object_refusal object_size read_of
object_samples = record { short = refl; needless = refl; long = refl }
