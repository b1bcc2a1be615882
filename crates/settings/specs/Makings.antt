-- What a hall's settings are made into.
use Rattle.std.specs.Prelude.{◌≡◌, ℕ, true, ◌⊎◌, is_some, Some, None, vec_items, List, Option}
use Rattle.rules.specs.Count.{CountMade}
use Rattle.rules.specs.Group.{GroupMade}
use Rattle.rules.specs.declared.count.CountRule.{CountRule}
use Rattle.rules.specs.declared.group.GroupRule.{GroupRule}
use Rattle.planner.specs.declared.plan.Request.{Request}
use Rattle.planner.specs.declared.plan.Request.TheVariants.{Count, Group}
use Rattle.refusals.specs.declared.Refusal.{Refusal}
use Rattle.refusals.specs.declared.Refusal.TheVariants.{NoWord, DigitTwice, UnlawfulRule}
use Rattle.rig_kinds.specs.declared.script.ScriptRig.{ScriptRig}
use Rattle.rig_kinds.specs.declared.noise.NoiseRig.{NoiseRig}
use Rattle.rig_kinds.specs.declared.torn.TornRig.{TornRig}
use Rattle.mender.specs.declared.mender.Mender.{Mender}
use Rattle.patch.specs.Boxes.{box_of, OneEach, Twice}
use Rattle.patch.specs.declared.number.Patch.{Patch}
use Rattle.patch.specs.declared.patched.Patched.{Patched}
use Rattle.settings.specs.declared.making.Settings.{Settings}
use Rattle.settings.specs.declared.making.Floors.{Floors}
use Rattle.settings.specs.declared.making.RigSetting.{RigSetting}
use Rattle.settings.specs.declared.making.RigSetting.TheVariants.{Script, Noise, Torn}
use Rattle.settings.specs.declared.making.Setting.{Setting}
use Rattle.settings.specs.declared.making.Setting.TheVariants.{Rule, Words, Rest, Rig, Patches}
use Rattle.settings.specs.declared.making.Unmade.{Unmade}
use Rattle.settings.specs.declared.making.Unmade.TheVariants.{Refused, Memory}
use Rattle.settings.specs.declared.making.Checked.{Checked}
use Rattle.settings.specs.declared.making.Parts.{Parts}
use Rattle.settings.specs.declared.either.Either.{Either}
use Rattle.settings.specs.declared.either.Either.TheVariants.{First, Second}

-- the numbers or masks that are asked for make a rule
abbrev pub Sound : Request → Type 0
Sound (Count n t) = CountMade n t
Sound (Group n ms) = GroupMade n (vec_items ms)

-- the rule q is the count rule of n stations and t
abbrev pub CountOf : ℕ → ℕ → Either CountRule GroupRule → Type 0
CountOf n t (First q) = (q.n ≡ n) × (q.t ≡ t)
CountOf n t (Second q) = ⊥

-- the rule q is the group rule of n stations and these masks
abbrev pub GroupOf : ℕ → List ℕ → Either CountRule GroupRule → Type 0
GroupOf n masks (First q) = ⊥
GroupOf n masks (Second q) = (q.n ≡ n) × (q.masks.items ≡ masks)

-- the rule q is the one that is asked for
abbrev pub RuleOf : Request → Either CountRule GroupRule → Type 0
RuleOf (Count n t) q = CountOf n t q
RuleOf (Group n ms) q = GroupOf n (vec_items ms) q

-- p is the patch of the number, where there is one
abbrev pub PatchOf : Option ℕ → Option Patch → Type 0
PatchOf None None = Unit {0}
PatchOf None (Some p) = ⊥
PatchOf (Some n) None = ⊥
PatchOf (Some n) (Some p) = (p.number ≡ n) × OneEach (box_of n)

-- there is a number, and a digit occurs twice in it
abbrev pub TwiceIn : Option ℕ → Type 0
TwiceIn None = ⊥
TwiceIn (Some n) = Twice n

-- the patches are those of the numbers
pub record PatchesOf (f : Floors ℕ) (g : Floors Patch) : Type 0 where
  pub top : PatchOf f.top g.top
  pub middle : PatchOf f.middle g.middle
  pub bottom : PatchOf f.bottom g.bottom

-- the rig under the patch, where there is one
abbrev pub under_of : {R : Type 0} → Option Patch → R → Either R (Patched R)
under_of None rig = First rig
under_of (Some p) rig = Second (record { patch = p; rig = rig })

-- the rig is of the kind that is set
abbrev pub BareOf : RigSetting → Either ScriptRig (Either NoiseRig (Mender TornRig)) → Type 0
BareOf (Script xs) (First q) = vec_items q.list ≡ vec_items xs
BareOf (Script xs) (Second q) = ⊥
BareOf (Noise seed) (First q) = ⊥
BareOf (Noise seed) (Second (First q)) = q.seed ≡ seed
BareOf (Noise seed) (Second (Second q)) = ⊥
BareOf (Torn xs) (First q) = ⊥
BareOf (Torn xs) (Second (First q)) = ⊥
BareOf (Torn xs) (Second (Second q)) = vec_items q.weak.script.list ≡ vec_items xs

-- the settings with one of them set anew
abbrev pub with_setting : Settings → Setting → Settings
with_setting s (Rule rule) = record { rule = rule; kind = s.kind; rest = s.rest; rig = s.rig; floors = s.floors }
with_setting s (Words kind) = record { rule = s.rule; kind = kind; rest = s.rest; rig = s.rig; floors = s.floors }
with_setting s (Rest code) = record { rule = s.rule; kind = s.kind; rest = code; rig = s.rig; floors = s.floors }
with_setting s (Rig rig) = record { rule = s.rule; kind = s.kind; rest = s.rest; rig = rig; floors = s.floors }
with_setting s (Patches floors) = record { rule = s.rule; kind = s.kind; rest = s.rest; rig = s.rig; floors = floors }

-- the settings t are s with one of them set anew
abbrev pub OneSet : Settings → Settings → Type 0
OneSet s t = (setting : Setting) × t ≡ with_setting s setting

-- no digit occurs twice in the number, where there is one
abbrev pub Once : Option ℕ → Type 0
Once None = Unit {0}
Once (Some n) = OneEach (box_of n)

-- a digit occurs twice in the first number from the top that is no patch's
abbrev pub TwiceAmong : Floors ℕ → Type 0
TwiceAmong f = TwiceIn f.top ⊎ (Once f.top × (TwiceIn f.middle ⊎ (Once f.middle × TwiceIn f.bottom)))

-- the settings are refused for e: the rest word's code is no word's
pub record NoRest {W : Type 0} (w : Option W) (e : Refusal) : Type 0 where
  pub refusal : e ≡ NoWord
  pub none : w ≡ None

-- the first patch from the top that has a digit twice, while there is a rest word
pub record TwicePatched {W : Type 0} (w : Option W) (f : Floors ℕ) (e : Refusal) : Type 0 where
  pub refusal : e ≡ DigitTwice
  pub word : is_some w ≡ true
  pub twice : TwiceAmong f

-- the rule that is asked for is none, while there is a rest word and each patch is one
pub record NoRule {W : Type 0} (w : Option W) (s : Settings) (e : Refusal) : Type 0 where
  pub refusal : e ≡ UnlawfulRule
  pub word : is_some w ≡ true
  pub top : Once s.floors.top
  pub middle : Once s.floors.middle
  pub bottom : Once s.floors.bottom
  pub unsound : Sound s.rule → ⊥

-- why the settings are not made: w is the word of the rest word's code, if any
abbrev pub NotMade : {W : Type 0} → Option W → Settings → Refusal → Type 0
NotMade w s e = NoRest w e ⊎ (TwicePatched w s.floors e ⊎ NoRule w s e)

-- why there are no parts: the settings are not made, or there is no memory
abbrev pub UnmadeFor : {W : Type 0} → Option W → Settings → Unmade → Type 0
UnmadeFor w s (Refused e) = NotMade w s e
UnmadeFor w s Memory = Unit {0}

-- what is checked is what the settings name
pub record CheckedOf {W : Type 0} (w : Option W) (s : Settings) (c : Checked W) : Type 0 where
  pub rest : w ≡ Some c.rest
  pub rule : RuleOf s.rule c.rule
  pub patches : PatchesOf s.floors c.patches

-- the rig is one of which P holds, under the patch of the number where there is one
abbrev pub UnderOf : {R : Type 0} → Option ℕ → (R → Type 0) → Either R (Patched R) → Type 0
UnderOf None P (First q) = P q
UnderOf None P (Second q) = ⊥
UnderOf (Some n) P (First q) = ⊥
UnderOf (Some n) P (Second q) = (q.patch.number ≡ n) × P q.rig

-- the parts are what the settings name
pub record PartsOf {W : Type 0} (w : Option W) (s : Settings) (p : Parts W) : Type 0 where
  pub rest : w ≡ Some p.rest
  pub rule : RuleOf s.rule p.rule
  pub rig : UnderOf s.floors.top (UnderOf s.floors.middle (UnderOf s.floors.bottom (BareOf s.rig))) p.rig
