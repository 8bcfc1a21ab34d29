-- Which way a formula or a row looks along a trace.
use Rattle.std.specs.Prelude.{Bool, true, false, cond, ◌&&◌}
use Rattle.sheet.specs.declared.row.Class.{Class}
use Rattle.sheet.specs.declared.row.Class.TheVariants.{Present, Past, Future, Mixed}

-- looks nowhere
abbrev pub is_present : Class → Bool
is_present Present = true
is_present Past = false
is_present Future = false
is_present Mixed = false

-- looks back at most
abbrev pub present_or_past : Class → Bool
present_or_past Present = true
present_or_past Past = true
present_or_past Future = false
present_or_past Mixed = false

-- looks ahead at most
abbrev pub present_or_future : Class → Bool
present_or_future Present = true
present_or_future Past = false
present_or_future Future = true
present_or_future Mixed = false

-- the class of a formula with operands of these two classes: present if both are, past if both are present or past
-- (and then one is past), future likewise, and mixed otherwise
abbrev pub joined : Class → Class → Class
joined c d =
    cond (is_present c && is_present d) Present
    (cond (present_or_past c && present_or_past d) Past
    (cond (present_or_future c && present_or_future d) Future
    Mixed))

-- past for future and future for past
abbrev pub mirror_class : Class → Class
mirror_class Present = Present
mirror_class Past = Future
mirror_class Future = Past
mirror_class Mixed = Mixed
