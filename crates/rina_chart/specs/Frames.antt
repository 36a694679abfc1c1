-- Where ticks and lifelines stand in a picture.
use Rattle.std.specs.Prelude.{ℕ, ◌+◌, ◌-◌, ◌*◌, ◌/◌, Bool, nat_le, max, min, if◌then◌else◌}
use Rattle.rina_chart.specs.declared.frame.Frame.{Frame}
use Rattle.rina_chart.specs.declared.frame.Scale.{Scale}
use Rattle.rina_chart.specs.declared.frame.Scale.TheVariants.{Large, Middle, Small}
use Rattle.rina_chart.specs.declared.window.Window.{Window}

-- how many ticks lie between the first and the last of a window
abbrev pub span_of : Window → ℕ
span_of w = w.to - w.from

-- the scale of a picture of so many ticks: the more there are, the smaller
unfoldable pub scale_of : ℕ → Scale
scale_of span = if nat_le span 100 then Large else if nat_le span 400 then Middle else Small

-- the frame of a picture of a window with so many lifelines
abbrev pub frame_of : Window → ℕ → Frame
frame_of w lanes = record { window = w; scale = scale_of (span_of w); lanes = lanes }

-- from how many ticks to how many one is labelled; at most 41 are
unfoldable pub step_of : ℕ → ℕ
step_of span = if nat_le span 40 then 1 else if nat_le span 100 then 5 else if nat_le span 400 then 10 else if nat_le span 4000 then 100 else span / 40

-- the height of some ticks
unfoldable pub height_of : Scale → ℕ → ℕ
height_of Large ticks = 20 * ticks
height_of Middle ticks = 6 * ticks
height_of Small ticks = 2 * ticks

-- how far down a tick stands; tick 0 stands below a head of 130 units
unfoldable pub y_of : Scale → ℕ → ℕ
y_of scale tick = 130 + height_of scale tick

-- how far from the left a lifeline stands; from place 65535 on they stand in one line
unfoldable pub x_of : ℕ → ℕ
x_of place = 120 + 200 * min place 65535

-- a point so far to the left of a lifeline, or to the right of it
unfoldable pub x_beside : ℕ → ℕ → Bool → ℕ
x_beside place by leftward = if leftward then x_of place - by else x_of place + by

-- where the picture begins: so that its first tick stands below a head of 130 units
unfoldable pub top_of : Frame → ℕ
top_of frame = height_of frame.scale frame.window.from

-- how high the picture is: its ticks, a head of 130 units above them, and 40 below
unfoldable pub picture_height : Frame → ℕ
picture_height frame = 170 + height_of frame.scale (span_of frame.window)

-- how wide the picture is: up to 120 units behind the last lifeline, and with room for two lifelines at least
unfoldable pub picture_width : Frame → ℕ
picture_width frame = x_of (max frame.lanes 2) - 80
