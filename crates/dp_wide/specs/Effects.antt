-- The effects of setting names, as the bytes that they hold.
use Rattle.dp_vars.specs.Functions.{target_seen}
use Rattle.dp_wide.specs.Settings.{EffectOf, OneTarget, NameAndNumber, EmptyKey, EachName}
use Rattle.dp_wide.specs.declared.settings.effects.Effect.{Effect}
use Rattle.dp_wide.specs.declared.settings.effects.Effect.TheVariants as effects

-- an effect, as the bytes of its names
abbrev pub effect_seen : Effect → EffectOf
effect_seen (effects.OneTarget target) = OneTarget (target_seen target)
effect_seen effects.NameAndNumber = NameAndNumber
effect_seen (effects.EmptyKey key) = EmptyKey key.now
effect_seen (effects.EachName names) = EachName names.now
