-- `Imaging`: what the calls on an image give, from what the device's calls give. `Back`: image and device, both ways, and a bad image is refused.
-- `Promises`: one result of each call. `Demands`: demand 3 for sequences of the exported calls; `Covered`: there is one for every history.
pub mod Imaging
pub mod Back
pub mod Promises
pub mod Demands
pub mod Covered
