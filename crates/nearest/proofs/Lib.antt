-- demand 3: the statements are in specs/Nearest and specs/OnPoint
pub mod Nearest
pub mod OnPoint
-- its proof, where it rests on the fallbacks: all put together by sections, in trio order, in natural order
pub mod Premises
pub mod Sections
pub mod Natural
